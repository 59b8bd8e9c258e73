-- Which of two faults of one line is told.
use Rattle.std.specs.Prelude.{Option, Some, None}
use Rattle.ia_resolve.specs.declared.place_fault.PlaceFault.{PlaceFault}
use Rattle.ia_resolve.specs.declared.place_fault.PlaceFault.TheVariants.{UnknownSymbol, Range, ShortJumpTooFar}

-- an unknown symbol before a range, and that before a short jump
abbrev pub first_of : Option PlaceFault → Option PlaceFault → Option PlaceFault
first_of None b = b
first_of (Some UnknownSymbol) b = Some UnknownSymbol
first_of (Some Range) (Some UnknownSymbol) = Some UnknownSymbol
first_of (Some Range) b = Some Range
first_of (Some ShortJumpTooFar) None = Some ShortJumpTooFar
first_of (Some ShortJumpTooFar) (Some f) = Some f
