use Rattle.std.proofs.Common.{◌≡◌, ℕ, Bool, true, false, cond, List, [], ◌∷◌, ◌++◌, sym, ◌∙◌, ap, get_or, refl}
use Rattle.std.specs.Prelude.{◌||◌, ◌==◌}
use Rattle.ia_names.specs.Locals.{is_local, whole_of}
use Rattle.ia_names.specs.Tries.{may_follow, wholes}
use Rattle.ia_names.proofs.Trees.{first_whole}
use Rattle.ia_names.proofs.names.Names.symbol.Goals as goal
use Rattle.ia_names.proofs.names.Names.symbol.Goals.{then-is_local, else-is_local}

local_follows : (front own : List ℕ) → is_local own ≡ true → may_follow front own ≡ true
local_follows front [] e = refl
local_follows front (b ∷ bs) e = rw e refl

first_follows : (own : List ℕ) → may_follow [] own ≡ true
first_follows [] = refl
first_follows (b ∷ bs) = by (b == 46)
  where
    by : (t : Bool) → (t || true) ≡ true
    by true = refl
    by false = refl

pub descend-requires-clause-follows : goal.descend-requires-clause-follows
descend-requires-clause-follows c = elim c.if-is_local.branch [
  | then-is_local w ↦ local_follows (get_or (wholes c.args.self.now.nodes.keys) c.if-is_local.from []) c.args.own.now
      (sym c.is_local.ensures ∙ w.if-is_local.true)
  | else-is_local w ↦
      ap (λ n. may_follow (get_or (wholes c.args.self.now.nodes.keys) n []) c.args.own.now) w.from-is
      ∙ ap (λ front. may_follow front c.args.own.now) (first_whole c.args.self.now.nodes.keys)
      ∙ first_follows c.args.own.now
]

pub returns-clause-named : goal.returns-clause-named
returns-clause-named c = (c.in_ok-number.ensures.known, c.in_ok-number.ensures.named ∙ whole)
  where
    own : List ℕ
    own = c.args.own.now

    whole : get_or (wholes c.args.self.now.nodes.keys) c.if-is_local.from [] ++ own
        ≡ whole_of c.args.self.now.scope.text.now own
    whole = elim c.if-is_local.branch [
      | then-is_local w ↦
          let local : is_local own ≡ true = sym c.is_local.ensures ∙ w.if-is_local.true in
          ap (λ n. get_or (wholes c.args.self.now.nodes.keys) n [] ++ own) w.from-is
          ∙ ap (λ front. front ++ own) c.args.self.now.scoped
          ∙ sym (ap (λ t. cond t (c.args.self.now.scope.text.now ++ own) own) local)
      | else-is_local w ↦
          let whole : is_local own ≡ false = sym c.is_local.ensures ∙ w.if-is_local.false in
          ap (λ n. get_or (wholes c.args.self.now.nodes.keys) n [] ++ own) w.from-is
          ∙ ap (λ front. front ++ own) (first_whole c.args.self.now.nodes.keys)
          ∙ sym (ap (λ t. cond t (c.args.self.now.scope.text.now ++ own) own) whole)
    ]
