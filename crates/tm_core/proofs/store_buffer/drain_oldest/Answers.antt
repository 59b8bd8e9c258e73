use Rattle.std.proofs.Common.{ℕ, Some, length, sym, subst}
use Rattle.tm_core.specs.StoreBuffers.{IsStorable}
use Rattle.tm_core.specs.Types.{Store}
use Rattle.tm_core.proofs.StoreBuffers.{oldest_of}
use Rattle.tm_core.proofs.Table.{place_lines}
use Rattle.tm_core.proofs.store_buffer.drain_oldest.Goals as goal

pub write-requires : goal.write-requires
write-requires g c =
    let oldest : Store = c.remove-oldest.result in
    let own : IsStorable (length c.args.memory.now) oldest =
    subst (IsStorable (length c.args.memory.now)) (sym c.remove-oldest.ensures.value)
    (c.requires.storable 0 oldest c.requires.some) in
    record { within = own.0; fits = own.1 }

pub hit_touched-requires-clause-store : goal.hit_touched-requires-clause-store
hit_touched-requires-clause-store g c =
    let size : ℕ = length c.args.memory.now in
    let oldest : Store = c.remove-oldest.result in
    let own : IsStorable size oldest =
    subst (IsStorable size) (sym c.remove-oldest.ensures.value) (c.requires.storable 0 oldest c.requires.some) in
    place_lines size (g.S.Sets.content c.args.sets.now).fixed.line_count (Some oldest) own.0 c.requires.within
    c.requires.small

pub returns-clause-drains : goal.returns-clause-drains
returns-clause-drains g c = record {
  oldest = c.remove-oldest.result;
  was = oldest_of c.args.pending.now.items c.remove-oldest.new.self.items c.remove-oldest.result c.requires.some
      c.remove-oldest.ensures.value c.remove-oldest.ensures.by_index.2;
  new_memory = c.write.ensures;
  hits = c.hit_touched.ensures;
}
