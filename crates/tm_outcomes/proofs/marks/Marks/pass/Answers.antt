use Rattle.std.proofs.Common.{◌≡◌, ◌<◌, ℕ, Option, Some, None, length, sym, subst, arith}
use Rattle.std.proofs.lemmas.List.{get_or_read}
use Rattle.tm_outcomes.specs.Links.{IsLast, IsLink, link_at}
use Rattle.tm_outcomes.specs.Marks.{IsMarked}
use Rattle.tm_outcomes.proofs.Passing.{nothing_grown, then_grown}
use Rattle.tm_outcomes.proofs.Sourcing.{IsLooking, all_looked, fewer_left, index_within, left_of, link_from, looks_on}
use Rattle.tm_outcomes.proofs.marks.Marks.pass.Goals as goal

pub links-init : goal.links-init
links-init c =
    let links = c.args.links.now in
    let node = c.args.node in
    let newest = c.args.sources.now.newest.items in
    record {
      grown = nothing_grown (λ from. IsLink links from node) c.args.self.now;
      looking = record {
        end = length links;
        within = omega arith;
        last = subst (λ (o : Option ℕ). IsLast links node (length links) o)
            (sym (get_or_read newest node c.index-next.result.now (let n = c.requires.sources.nodes_count in
            let b = c.requires.node in omega arith) c.index-next.ensures None))
            (c.requires.sources.newest node c.requires.node);
        done = λ index above below leads. absurd (omega arith);
      };
    }

pub bounds-links-index : goal.bounds-links-index
bounds-links-index c =
    index_within c.args.links.now (λ from. IsMarked c.links.self.marked.items from) c.args.node c.in-Some.index
    (subst
    (λ (o : Option ℕ). IsLooking c.args.links.now (λ from. IsMarked c.links.self.marked.items from) c.args.node o)
    c.in-Some.is
    c.links.invariant.looking)

pub index-next-requires-in-Some : goal.index-next-requires-in-Some
index-next-requires-in-Some c =
    let within =
    index_within c.args.links.now (λ from. IsMarked c.links.self.marked.items from) c.args.node c.in-Some.index
    (subst
    (λ (o : Option ℕ). IsLooking c.args.links.now (λ from. IsMarked c.links.self.marked.items from) c.args.node o)
    c.in-Some.is
    c.links.invariant.looking) in
    let count = c.requires.sources.links_count in
    omega arith

pub links-smaller : goal.links-smaller
links-smaller c =
    let links = c.args.links.now in
    let index = c.in-Some.index in
    let older = c.args.sources.now.older.items in
    let next : Option ℕ = c.index-next-in-Some.result.now in
    let within : index < length links =
    index_within links (λ from. IsMarked c.links.self.marked.items from) c.args.node index
    (subst (λ (o : Option ℕ). IsLooking links (λ from. IsMarked c.links.self.marked.items from) c.args.node o)
    c.in-Some.is
    c.links.invariant.looking) in
    let last : IsLast links (link_at links index).to index next =
    subst (λ (o : Option ℕ). IsLast links (link_at links index).to index o)
    (sym (get_or_read older index next (let n = c.requires.sources.links_count in omega arith)
    c.index-next-in-Some.ensures None))
    (c.requires.sources.older index within) in
    subst (λ (o : Option ℕ). left_of next < left_of o) (sym c.in-Some.is)
    (fewer_left links (link_at links index).to index next last)

pub links-preserved : goal.links-preserved
links-preserved c =
    let links = c.args.links.now in
    let node = c.args.node in
    let index = c.in-Some.index in
    let older = c.args.sources.now.older.items in
    let next : Option ℕ = c.index-next-in-Some.result.now in
    let looking : IsLooking links (λ from. IsMarked c.links.self.marked.items from) node (Some index) =
    subst (λ (o : Option ℕ). IsLooking links (λ from. IsMarked c.links.self.marked.items from) node o) c.in-Some.is
    c.links.invariant.looking in
    let within : index < length links =
    index_within links (λ from. IsMarked c.links.self.marked.items from) node index looking in
    let last : IsLast links (link_at links index).to index next =
    subst (λ (o : Option ℕ). IsLast links (link_at links index).to index o)
    (sym (get_or_read older index next (let n = c.requires.sources.links_count in omega arith)
    c.index-next-in-Some.ensures None))
    (c.requires.sources.older index within) in
    let leads : (link_at links index).to ≡ node = looking.last.1 in
    let source : IsLink links (link_at links index).from node =
    subst (λ n. IsLink links (link_at links index).from n) leads (link_from links index within) in
    let marked = c.in_ok-mark.ensures in
    record {
      grown = then_grown (λ from. IsLink links from node) (λ other. other ≡ (link_at links index).from) c.args.self.now
          c.links.self c.mark.new.self
          (λ other same. subst (λ n. IsLink links n node) (sym same) source) c.links.invariant.grown marked.grown;
      looking = looks_on links (λ from. IsMarked c.links.self.marked.items from)
          (λ from. IsMarked c.mark.new.self.marked.items from) node index next
          marked.grown.kept marked.here last looking;
    }

pub returns : goal.returns
returns c =
    let links = c.args.links.now in
    let node = c.args.node in
    record {
      grown = c.links.invariant.grown;
      passed = all_looked links (λ from. IsMarked c.links.self.marked.items from) node
          (subst (λ (o : Option ℕ). IsLooking links (λ from. IsMarked c.links.self.marked.items from) node o)
          c.in_default.is c.links.invariant.looking);
    }
