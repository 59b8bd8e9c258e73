-- The digests of names, by which a table finds them: SipHash-1-3, in which names that share a digest are hard to find.
use Rattle.std.specs.Prelude.{ℕ, List}
use Rattle.std.specs.declared.hash.DefaultHasher.{DefaultHasher}
use Rattle.std.specs.Hash.DefaultHasher as sip

-- what a hasher holds that is new, and one that is given more bytes
abbrev pub new_hasher : DefaultHasher
new_hasher = sip.initial

abbrev pub given_more : DefaultHasher → List ℕ → DefaultHasher
given_more s bytes = sip.write s bytes

-- the digest of a whole name (Aumasson and Bernstein, "SipHash: a fast short-input PRF", 2012), with keys of 0
unfoldable pub name_digest : List ℕ → ℕ
name_digest bytes = sip.finish (given_more new_hasher bytes)
