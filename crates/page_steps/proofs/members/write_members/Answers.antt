use Rattle.std.proofs.Common.{false, ℕ, List, [], ◌∷◌, codes}
use Rattle.page_steps.specs.Members.{access_member, event_member, hits_member, load_made, named, pending_member}
use Rattle.page_steps.specs.Members.{state_member, store_name}
use Rattle.page_steps.specs.Numbers.{numbers_text}
use Rattle.page_steps.specs.Stored.{stored_text}
use Rattle.page_steps.proofs.Saying.{member_then}
use Rattle.page_steps.proofs.members.write_members.Goals as goal

pub returns : goal.returns
returns g c =
    let r = c.put_end.result in
    let delta = c.args.delta.now in
    let state = state_member c.args.before delta.state in
    let reads = named (codes "\"r\":") numbers_text delta.reads.items in
    let writes = named (codes "\"w\":") numbers_text delta.writes.items in
    let load = access_member (load_made delta.outcome delta.load) in
    let stored = named (store_name delta.outcome) stored_text delta.stored.items in
    let pending = pending_member delta.pending in
    let hits = hits_member delta.hits in
    let event = event_member delta.outcome in
    let eighth : List (List ℕ) = [] in
    let seventh : List (List ℕ) = event ∷ eighth in
    let sixth : List (List ℕ) = hits ∷ seventh in
    let fifth : List (List ℕ) = pending ∷ sixth in
    let fourth : List (List ℕ) = stored ∷ fifth in
    let third : List (List ℕ) = load ∷ fourth in
    let second : List (List ℕ) = writes ∷ third in
    let first : List (List ℕ) = reads ∷ second in
    member_then _ false _ state first r c.in_ok-some.ensures.some c.in_ok-some.ensures.text
    (member_then _ _ _ reads second r (rw c.as_slice.ensures.value at c.in_ok-some-2.ensures.some)
    (rw c.as_slice.ensures.value at c.in_ok-some-2.ensures.text)
    (member_then _ _ _ writes third r (rw c.as_slice-2.ensures.value at c.in_ok-some-3.ensures.some)
    (rw c.as_slice-2.ensures.value at c.in_ok-some-3.ensures.text)
    (member_then _ _ _ load fourth r (rw c.load_made.ensures at c.in_ok-some-4.ensures.some)
    (rw c.load_made.ensures at c.in_ok-some-4.ensures.text)
    (member_then _ _ _ stored fifth r (rw c.as_slice-3.ensures.value at c.in_ok-some-5.ensures.some)
    (rw c.as_slice-3.ensures.value at c.in_ok-some-5.ensures.text)
    (member_then _ _ _ pending sixth r c.in_ok-some-6.ensures.some c.in_ok-some-6.ensures.text
    (member_then _ _ _ hits seventh r c.in_ok-some-7.ensures.some c.in_ok-some-7.ensures.text
    (member_then _ _ _ event eighth r c.in_ok-some-8.ensures.some c.in_ok-some-8.ensures.text
    c.put_end.ensures)))))))
