use Rattle.std.proofs.Common.{◌<◌, length, sym, ap, ◌∙◌, arith}
use Rattle.std.proofs.lemmas.List.{length-set}
use Rattle.tm_sets.specs.declared.interface.Kind.TheVariants.{Read, Write}
use Rattle.tm_sets.proofs.Likes.{lines_at, room_stays, within_stays}
use Rattle.tm_sets.proofs.plain.PlainSetsSets.copy_core.Goals as goal

pub copy_from-requires : goal.copy_from-requires
copy_from-requires c =
    let mine = c.args.self.now in
    let other = c.args.other.now in
    let below : c.args.core < length other.reads.items =
    omega (arith, c.requires.here, ap (λ f. f.cores) c.requires.alike) in
    ap (λ l. l.room) (lines_at other.reads.items below c.from-2.ensures c.index.ensures)
    ∙ other.read_room c.args.core below
    ∙ ap (λ f. f.room Read) c.requires.alike
    ∙ sym (ap (λ l. l.room) (lines_at mine.reads.items c.requires.here c.from.ensures c.index_mut.ensures.value)
    ∙ mine.read_room c.args.core c.requires.here)

pub copy_from-requires-2 : goal.copy_from-requires-2
copy_from-requires-2 c =
    let mine = c.args.self.now in
    let other = c.args.other.now in
    let here : c.args.core < length mine.writes.items = omega (arith, c.requires.here, mine.cores) in
    let below : c.args.core < length other.writes.items =
    omega (arith, here, mine.cores, other.cores, ap (λ f. f.cores) c.requires.alike) in
    ap (λ l. l.room) (lines_at other.writes.items below c.from-4.ensures c.index-2.ensures)
    ∙ other.write_room c.args.core below
    ∙ ap (λ f. f.room Write) c.requires.alike
    ∙ sym (ap (λ l. l.room) (lines_at mine.writes.items here c.from-3.ensures c.index_mut-2.ensures.value)
    ∙ mine.write_room c.args.core here)

pub invariant_of-self : goal.invariant_of-self
invariant_of-self c =
    let mine = c.args.self.now in
    let other = c.args.other.now in
    let here : c.args.core < length mine.writes.items = omega (arith, c.requires.here, mine.cores) in
    let below : c.args.core < length other.writes.items =
    omega (arith, here, mine.cores, other.cores, ap (λ f. f.cores) c.requires.alike) in
    let reads = length-set mine.reads.items c.from.result c.copy_from.new.self in
    let writes = length-set mine.writes.items c.from-3.result c.copy_from-2.new.self in
    let few = mine.few in
    record {
      cores = writes ∙ mine.cores ∙ sym reads;
      few = omega (arith, reads, few);
      read_room = room_stays mine.reads.items c.from.result c.copy_from.new.self mine.read_lines mine.read_room
          (c.copy_from.ensures.room
          ∙ ap (λ l. l.room) (lines_at mine.reads.items c.requires.here c.from.ensures c.index_mut.ensures.value)
          ∙ mine.read_room c.args.core c.requires.here);
      write_room = room_stays mine.writes.items c.from-3.result c.copy_from-2.new.self mine.write_lines mine.write_room
          (c.copy_from-2.ensures.room
          ∙ ap (λ l. l.room) (lines_at mine.writes.items here c.from-3.ensures c.index_mut-2.ensures.value)
          ∙ mine.write_room c.args.core here);
      write_within =
          within_stays mine.writes.items c.from-3.result c.copy_from-2.new.self mine.write_lines mine.write_within
          (let most = other.write_within c.args.core below in
          let order = ap length (c.copy_from-2.ensures.lines
          ∙ ap (λ l. l.order) (lines_at other.writes.items below c.from-4.ensures c.index-2.ensures)) in
          omega (arith, most, order, ap (λ f. f.room Write) c.requires.alike));
    }
