use Rattle.std.proofs.Common.{◌≡◌, ◌≤◌, ◌+◌, ◌-◌, ◌*◌, ◌^◌, length, drop}
use Rattle.ia_layout.specs.Placement.{places, after}
use Rattle.ia_layout.specs.Contents.{layout_state}
use Rattle.ia_layout.proofs.placer.PlacerWalk.go_over.Given as goal

-- what takes the places from here on has taken all of them
abbrev pub invariant-loop-entry : goal.invariant-loop-entry
invariant-loop-entry g l = record {
  text : l.self.walk.text + (length l.entries - l.entry-index) * 2 ^ 64 ≤ 2 ^ 125;
  tail : l.self.walk.tail + (length l.entries - l.entry-index) * 2 ^ 64 ≤ 2 ^ 125;
  walk : after (layout_state l.self.walk) (drop l.entry-index l.entries)
      ≡ after (layout_state l.initial.self.walk) l.entries;
  taken : (t : _) → g.T.Taker.Taken l.self.taker (places (layout_state l.self.walk) (drop l.entry-index l.entries)) t
      → g.T.Taker.Taken l.initial.self.taker (places (layout_state l.initial.self.walk) l.entries) t;
}
