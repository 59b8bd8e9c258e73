-- What a reader of packets makes of the bytes that it hears (gdb manual, appendix E.1, "Overview", and E.10,
-- "Interrupts").
use Rattle.std.specs.Prelude.{◌≡◌, ◌≢◌, ℕ, ◌<◌, ◌==◌, ◌||◌, Bool, true, false, ◌⊎◌, List, [], ◌∷◌, ◌++◌, length, All}
use Rattle.std.specs.Prelude.{Some, None}
use Rattle.gdb_packet.specs.declared.heard.Heard.{Heard}
use Rattle.gdb_packet.specs.declared.heard.Heard.TheVariants.{Nothing, Packet, Damaged, TooLong, Interrupt}
use Rattle.gdb_packet.specs.declared.heard.Heard.TheVariants.{Received, Resend}
use Rattle.gdb_packet.specs.declared.heard.Heard.TheVariants.{Stray}
use Rattle.gdb_packet.specs.declared.reader.Place.{Place}
use Rattle.gdb_packet.specs.declared.reader.Place.TheVariants.{Outside, Text, Checksum, LastDigit}
use Rattle.gdb_packet.specs.declared.reader.Reader.{Reader}
use Rattle.gdb_packet.specs.Packet.{checksum_digits, packet_of, unescaped}

-- a text up to its #
abbrev pub HasNoHash : List ℕ → Type 0
HasNoHash text = All (λ byte. byte ≢ 35) text

-- what is kept of a text of at most 16384 bytes, and of a longer one
abbrev pub IsKept : Bool → List ℕ → List ℕ → Type 0
IsKept false kept text = kept ≡ text
IsKept true kept text = 16384 < length text

-- a text of which this is kept, and these bytes since the $
pub record HasText (long : Bool) (kept : List ℕ) (end since : List ℕ) : Type 0 where
  pub text : List ℕ
  pub is_kept : IsKept long kept text
  pub has_no_hash : HasNoHash text
  pub bytes : since ≡ 36 ∷ text ++ end

-- the bytes since the $ of a packet that is not at its end, and none outside of packets
abbrev pub Stands : Place → Bool → List ℕ → List ℕ → Type 0
Stands Outside long kept since = since ≡ []
Stands Text long kept since = HasText long kept [] since
Stands Checksum long kept since = HasText long kept (35 ∷ []) since
Stands (LastDigit first) long kept since = HasText long kept (35 ∷ first ∷ []) since

abbrev pub IsBehind : List ℕ → Reader → Type 0
IsBehind since reader = Stands reader.place reader.long reader.text.items since

-- a packet of these bytes
pub record IsPacket (heard bytes : List ℕ) : Type 0 where
  pub text : List ℕ
  pub has_no_hash : HasNoHash text
  pub packet : heard ≡ packet_of text
  pub stands_for : unescaped text ≡ Some bytes

-- a text between its bounds with another checksum than its own, or one that stands for no bytes
pub record IsDamaged (heard : List ℕ) : Type 0 where
  pub text : List ℕ
  pub digits : List ℕ
  pub has_no_hash : HasNoHash text
  pub bytes : heard ≡ 36 ∷ text ++ 35 ∷ digits
  pub two : length digits ≡ 2
  pub fault : (digits ≢ checksum_digits text) ⊎ (unescaped text ≡ None)

-- a packet whose text is longer than is kept
pub record IsTooLong (heard : List ℕ) : Type 0 where
  pub text : List ℕ
  pub digits : List ℕ
  pub has_no_hash : HasNoHash text
  pub bytes : heard ≡ 36 ∷ text ++ 35 ∷ digits
  pub two : length digits ≡ 2
  pub long : 16384 < length text

-- a byte that means something outside of packets: $, +, - and 0x03
abbrev pub is_meant : ℕ → Bool
is_meant byte = (byte == 36) || (byte == 43) || (byte == 45) || (byte == 3)

-- what some bytes, heard outside of packets, are
abbrev pub Is : List ℕ → Heard → Type 0
Is heard Nothing = ⊥
Is heard (Packet bytes) = IsPacket heard bytes.items
Is heard Damaged = IsDamaged heard
Is heard TooLong = IsTooLong heard
Is heard Interrupt = heard ≡ 3 ∷ []
Is heard Received = heard ≡ 43 ∷ []
Is heard Resend = heard ≡ 45 ∷ []
Is heard (Stray byte) = (heard ≡ byte ∷ []) × (is_meant byte ≡ false)

-- nothing is told of bytes that are no whole yet, and each whole is told as what it is
abbrev pub Hears : List ℕ → Heard → Reader → Type 0
Hears heard Nothing reader = IsBehind heard reader
Hears heard (Packet bytes) reader = Is heard (Packet bytes) × IsBehind [] reader
Hears heard Damaged reader = Is heard Damaged × IsBehind [] reader
Hears heard TooLong reader = Is heard TooLong × IsBehind [] reader
Hears heard Interrupt reader = Is heard Interrupt × IsBehind [] reader
Hears heard Received reader = Is heard Received × IsBehind [] reader
Hears heard Resend reader = Is heard Resend × IsBehind [] reader
Hears heard (Stray byte) reader = Is heard (Stray byte) × IsBehind [] reader
