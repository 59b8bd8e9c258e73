-- What the steps of a run by chance are drawn from (docs/FORMATS.md, "Hunt").
use Rattle.std.specs.Prelude.{ℕ, ◌+◌, ◌*◌, ◌^◌, bit_xor}
use Rattle.rand.specs.Uniform.{canon}
use Rattle.rand_core.specs.Steps.{steps_u64_high, stream_of}
use Rattle.rand_core.specs.Stream.{Stream, next_u32}
use Rattle.rand_xoshiro.specs.SplitMix64.{splitmix_seed}
use Rattle.rand_xoshiro.specs.Xoshiro256.{of_seed, plus_plus}
use Rattle.tm_pick.specs.declared.chance.Chance.{Chance}

-- what a generator gives from now on
abbrev pub words_of : Chance → Stream
words_of chance = stream_of (steps_u64_high plus_plus) chance.words

-- xoshiro256++ with the state that SplitMix64 fills from a number
abbrev pub generator_of : ℕ → Stream
generator_of number = stream_of (steps_u64_high plus_plus) (of_seed (splitmix_seed 32 number))

abbrev pub number_of_run : ℕ → ℕ → ℕ
number_of_run seed run = seed * 2 ^ 32 + run

-- another one, by "interfer" in ASCII
abbrev pub number_of_events : ℕ → ℕ → ℕ
number_of_events seed run = bit_xor (number_of_run seed run) 0x696e746572666572

-- and one more, by "draining" in ASCII
abbrev pub number_of_drains : ℕ → ℕ → ℕ
number_of_drains seed run = bit_xor (number_of_run seed run) 0x647261696e696e67

-- a number below this one, each as likely as another, and what the generator gives behind it
abbrev pub below : ℕ → Stream → ℕ × Stream
below bound words = canon (2 ^ 32) next_u32 bound words
