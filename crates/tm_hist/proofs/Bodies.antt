-- A body that runs on the one memory is the isolated one.
use Rattle.std.proofs.Common.{◌≡◌, ℕ, zero, suc, ◌+◌, ◌-◌, ◌<◌, ◌≤◌, ◌^◌, List, [], ◌∷◌, ◌++◌, refl, sym, ◌∙◌, ap}
use Rattle.std.proofs.Common.{arith, Option, Some, None, nat_eq, slice_set, if◌then◌else◌}
use Rattle.std.proofs.lemmas.Bool.{ne_eqb}
use Rattle.std.specs.Option.{option_and_then}
use Rattle.ia_regs.specs.declared.Regs.{Regs}
use Rattle.tm_rule.specs.declared.kinds.OutsideResult.{OutsideResult}
use Rattle.tm_rule.specs.declared.kinds.OutsideResult.TheVariants.{Goes, Begins, Stops}
use Rattle.tm_rule.specs.declared.kinds.InsideResult.{InsideResult}
use Rattle.tm_rule.specs.declared.kinds.InsideResult.TheVariants.{GoesOn, Nests, Ends, Fails}
use Rattle.tm_model.specs.Access.{Stores, memory_after, stores_of}
use Rattle.tm_model.specs.Isolated.{Body as Isolated, first_body, instruction_after, isolated_body, longer_body}
use Rattle.tm_model.specs.Isolated.{next_body}
use Rattle.tm_model.specs.Setting.{Setting, inside_at, outside_at}
use Rattle.tm_model.specs.State.{Closed}
use Rattle.tm_model.specs.Steps.{after_commit}
use Rattle.tm_hist.specs.Serial.{flat_body_after, flat_body_begun, memory_after_instruction}
use Rattle.ia_word.specs.Width.{bytes_of, bits_of}
use Rattle.ia_exec.specs.declared.done.Store.{Store}
use Rattle.std.specs.Option.{IfSome}
use Rattle.tm_rule.proofs.Facts.{StoreIn}
use Rattle.tm_hist.specs.declared.flat.FlatBody.{FlatBody}

pub written_more : (m : List ℕ) (ws vs : Stores) → memory_after m (ws ++ vs) ≡ memory_after (memory_after m vs) ws
written_more m [] vs = refl
written_more m (w ∷ ws) vs = ap (λ n. slice_set n w.0 w.1) (written_more m ws vs)

-- after n instructions the code's body and memory are those of the isolated body
pub record Ran (k : Setting) (s : Regs) (m : List ℕ) (n : ℕ) (body : FlatBody) (now : List ℕ) : Type 0 where
  pub stores : Stores
  pub loads : List ℕ
  pub is : isolated_body k s m n
      ≡ Some (record { regs = body.regs; depth = body.depth; stores = stores; loads = loads })
  pub memory : now ≡ memory_after m stores

abbrev of_some : FlatBody → Option FlatBody → FlatBody
of_some d None = d
of_some d (Some b) = b

-- the isolated body with these registers and this depth
abbrev whole : FlatBody → Stores → List ℕ → Isolated
whole b stores loads = record { regs = b.regs; depth = b.depth; stores = stores; loads = loads }

record Grown (o : Option Isolated) (m now : List ℕ) (b : FlatBody) : Type 0 where
  stores : Stores
  loads : List ℕ
  is : o ≡ Some (whole b stores loads)
  memory : now ≡ memory_after m stores

begun_same : (addresses m : List ℕ) (o : OutsideResult) (b : FlatBody) → Some b ≡ flat_body_begun o
    → Grown (first_body addresses o) m m b
begun_same addresses m (Begins s) b h = record {
  stores = [];
  loads = addresses;
  is = ap (λ q. Some (whole q [] addresses)) (sym (ap (of_some b) h));
  memory = refl;
}
begun_same addresses m (Goes s w) b h = absurd (cc)
begun_same addresses m (Stops why) b h = absurd (cc)

begun_not : (addresses : List ℕ) (o : OutsideResult) → None ≡ flat_body_begun o → first_body addresses o ≡ None
begun_not addresses (Begins s) h = absurd (cc)
begun_not addresses (Goes s w) h = refl
begun_not addresses (Stops why) h = refl

grown_same : (m addresses : List ℕ) (b : FlatBody) (stores : Stores) (loads : List ℕ) (w : InsideResult) (c : FlatBody)
    → Some c ≡ flat_body_after b.depth w →
    Grown (next_body (whole b stores loads) addresses w) m (memory_after_instruction (memory_after m stores) w) c
grown_same m addresses b stores loads (GoesOn s st) c h = record {
  stores = stores_of st ++ stores;
  loads = addresses ++ loads;
  is = ap (λ q. Some (whole q (stores_of st ++ stores) (addresses ++ loads))) (sym (ap (of_some c) h));
  memory = sym (written_more m (stores_of st) stores);
}
grown_same m addresses b stores loads (Nests s) c h = record {
  stores = stores;
  loads = addresses ++ loads;
  is = ap (λ q. Some (whole q stores (addresses ++ loads))) (sym (ap (of_some c) h));
  memory = refl;
}
grown_same m addresses b stores loads (Ends s) c h = record {
  stores = stores;
  loads = addresses ++ loads;
  is = ap (λ q. Some (whole q stores (addresses ++ loads))) (sym (ap (of_some c) h));
  memory = refl;
}
grown_same m addresses b stores loads (Fails cause) c h = absurd (cc)

grown_not : (b : Isolated) (addresses : List ℕ) (w : InsideResult) → None ≡ flat_body_after b.depth w
    → next_body b addresses w ≡ None
grown_not b addresses (GoesOn s st) h = absurd (cc)
grown_not b addresses (Nests s) h = absurd (cc)
grown_not b addresses (Ends s) h = absurd (cc)
grown_not b addresses (Fails cause) h = refl

pub begins : (k : Setting) (s : Regs) (m : List ℕ) (b : FlatBody) → Some b ≡ flat_body_begun (outside_at k s m)
    → Ran k s m 1 b m
begins k s m b h = let g = begun_same (k.load_of s) m (outside_at k s m) b h in
    record { stores = g.stores; loads = g.loads; is = g.is; memory = g.memory }

pub begins_not : (k : Setting) (s : Regs) (m : List ℕ) → None ≡ flat_body_begun (outside_at k s m)
    → isolated_body k s m 1 ≡ None
begins_not k s m h = begun_not (k.load_of s) (outside_at k s m) h

-- what comes after a body that is still open
longer_is : (k : Setting) (m : List ℕ) (b : Isolated) → 0 < b.depth
    → longer_body k m b ≡ next_body b (k.load_of b.regs) (instruction_after k m b)
longer_is k m b h = rw (ne_eqb b.depth 0 (λ e. omega arith))

pub goes_on : (k : Setting) (s : Regs) (m : List ℕ) (n : ℕ) (b : FlatBody) (now : List ℕ) (c : FlatBody)
    (after : List ℕ) → 0 < n → 0 < b.depth →
    Ran k s m n b now → Some c ≡ flat_body_after b.depth (inside_at k b.regs b.depth now)
    → after ≡ memory_after_instruction now (inside_at k b.regs b.depth now) →
    Ran k s m (n + 1) c after
goes_on k s m zero b now c after some going r h e = absurd (omega arith)
goes_on k s m (suc n) b now c after some going r h e =
    let w = inside_at k b.regs b.depth (memory_after m r.stores) in
    let next : Some c ≡ flat_body_after b.depth w =
    h ∙ ap (λ x. flat_body_after b.depth (inside_at k b.regs b.depth x)) r.memory in
    let g = grown_same m (k.load_of b.regs) b r.stores r.loads w c next in
    let more : suc n + 1 ≡ suc (suc n) = omega arith in
    record {
      stores = g.stores;
      loads = g.loads;
      is = ap (isolated_body k s m) more ∙ ap (option_and_then (longer_body k m)) r.is
          ∙ longer_is k m (whole b r.stores r.loads) going ∙ g.is;
      memory = e ∙ ap (λ x. memory_after_instruction x (inside_at k b.regs b.depth x)) r.memory ∙ g.memory;
    }

pub goes_not : (k : Setting) (s : Regs) (m : List ℕ) (n : ℕ) (b : FlatBody) (now : List ℕ) → 0 < n → 0 < b.depth →
    Ran k s m n b now → None ≡ flat_body_after b.depth (inside_at k b.regs b.depth now)
    → isolated_body k s m (n + 1) ≡ None
goes_not k s m zero b now some going r h = absurd (omega arith)
goes_not k s m (suc n) b now some going r h =
    let more : suc n + 1 ≡ suc (suc n) = omega arith in
    let w = inside_at k b.regs b.depth (memory_after m r.stores) in
    let next : None ≡ flat_body_after b.depth w =
    h ∙ ap (λ x. flat_body_after b.depth (inside_at k b.regs b.depth x)) r.memory in
    ap (isolated_body k s m) more ∙ ap (option_and_then (longer_body k m)) r.is
    ∙ longer_is k m (whole b r.stores r.loads) going ∙ grown_not (whole b r.stores r.loads) (k.load_of b.regs) w next

pub ended_early : (k : Setting) (s : Regs) (m : List ℕ) (n : ℕ) (b : FlatBody) (now : List ℕ) → 0 < n → b.depth ≡ 0
    → Ran k s m n b now → isolated_body k s m (n + 1) ≡ None
ended_early k s m zero b now some shut r = absurd (omega arith)
ended_early k s m (suc n) b now some shut r =
    let more : suc n + 1 ≡ suc (suc n) = omega arith in
    ap (isolated_body k s m) more ∙ ap (option_and_then (longer_body k m)) r.is
    ∙ ap (λ d. if nat_eq d 0 then None else next_body (whole b r.stores r.loads) (k.load_of b.regs)
    (instruction_after k m (whole b r.stores r.loads))) shut

-- nothing comes of a body behind its end
gone_more : (k : Setting) (s : Regs) (m : List ℕ) (n j : ℕ) → isolated_body k s m (suc n) ≡ None
    → isolated_body k s m (suc n + j) ≡ None
gone_more k s m n zero h = let e : suc n + 0 ≡ suc n = omega arith in ap (isolated_body k s m) e ∙ h
gone_more k s m n (suc j) h =
    let e : suc n + suc j ≡ suc (suc (n + j)) = omega arith in
    let f : suc n + j ≡ suc (n + j) = omega arith in
    ap (isolated_body k s m) e
    ∙ ap (option_and_then (longer_body k m)) (ap (isolated_body k s m) (sym f) ∙ gone_more k s m n j h)

pub gone_to : (k : Setting) (s : Regs) (m : List ℕ) (i n : ℕ) → isolated_body k s m (i + 1) ≡ None → i < n
    → option_and_then (after_commit m) (isolated_body k s m n) ≡ None
gone_to k s m i n h l =
    let e : n ≡ suc i + (n - suc i) = omega arith in
    let f : i + 1 ≡ suc i = omega arith in
    ap (λ j. option_and_then (after_commit m) (isolated_body k s m j)) e
    ∙ ap (option_and_then (after_commit m)) (gone_more k s m i (n - suc i) (ap (isolated_body k s m) (sym f) ∙ h))

pub commits : (k : Setting) (s : Regs) (m : List ℕ) (n : ℕ) (b : FlatBody) (now : List ℕ) → b.depth ≡ 0
    → Ran k s m n b now →
    option_and_then (after_commit m) (isolated_body k s m n) ≡ Some (now, Closed b.regs)
commits k s m n b now shut r =
    ap (option_and_then (after_commit m)) r.is
    ∙ ap (λ d. if nat_eq d 0 then Some (memory_after m r.stores, Closed b.regs) else None) shut
    ∙ ap (λ x. Some (x, Closed b.regs)) (sym r.memory)

pub commits_not : (k : Setting) (s : Regs) (m : List ℕ) (n : ℕ) (b : FlatBody) (now : List ℕ) → 0 < b.depth
    → Ran k s m n b now →
    option_and_then (after_commit m) (isolated_body k s m n) ≡ None
commits_not k s m n b now going r =
    ap (option_and_then (after_commit m)) r.is ∙ rw (ne_eqb b.depth 0 (λ e. omega arith))

-- a store that lies in memory and fits
pub store_within : (size n : ℕ) (o : Option Store) → n ≡ size → StoreIn size o
    → IfSome o (λ w. w.addr + bytes_of w.width ≤ n)
store_within size n None e h = tt
store_within size n (Some w) e h = let low = h.0 in omega arith

pub store_fits : (size : ℕ) (o : Option Store) → StoreIn size o → IfSome o (λ w. w.value < 2 ^ bits_of w.width)
store_fits size None h = tt
store_fits size (Some w) h = h.1
