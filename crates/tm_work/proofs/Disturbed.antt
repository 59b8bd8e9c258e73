-- What steps tell of events.
use Rattle.std.proofs.Common.{◌≡◌, ℕ, List, [], ◌∷◌, ◌++◌, false, Option, Some, None, refl, sym, ap, subst, inl, inr}
use Rattle.std.proofs.Math.Seq.{drop-length}
use Rattle.std.proofs.lemmas.List.Elements.{All-append, All-cons, All-nil, All-weaker}
use Rattle.tm_hist.specs.Board.{ShownBoard, TellsOf}
use Rattle.tm_model.specs.declared.outcome.Event.{Event}
use Rattle.tm_model.specs.declared.outcome.Event.TheVariants as event
use Rattle.tm_model.specs.declared.outcome.Interference.TheVariants.{Interrupt, Eviction, Snoop}
use Rattle.tm_model.specs.declared.outcome.Outcome.{Outcome}
use Rattle.tm_model.specs.declared.outcome.Outcome.TheVariants.{Aborted, AbortedBy, Begun, Committed, Idle, Inside}
use Rattle.tm_model.specs.declared.outcome.Outcome.TheVariants.{Drained, Loaded, Plain, Stopped}
use Rattle.tm_model.specs.Runs.{TellNoAbort, event_told, is_aborted_by}
use Rattle.tm_pick.specs.Drawn.{AreDrawn}
use Rattle.tm_pick.specs.Kinds.{IsOfKinds, all_kinds, no_kinds}
use Rattle.tm_pick.specs.declared.events.Events.{Events}
use Rattle.tm_pick.specs.declared.events.Events.TheVariants.{Never, Rate, Draw}
use Rattle.tm_pick.specs.declared.kinds.Kinds.{Kinds}
use Rattle.tm_work.specs.Events.{IsAbortOfKinds, TellDrawn}
use Rattle.tm_work.specs.Seats.{AreStepsMade, GoesOn, IsDisturbed, IsStepMade, new_part}
use Rattle.tm_work.specs.declared.progress.Progress.{Progress}
use Rattle.tm_work.specs.declared.progress.Receipt.{Receipt}
use Rattle.tm_work.proofs.Turns.{part_next}

-- ---- one outcome

-- no abort from outside is of any kinds
of_none : (kinds : Kinds) (o : Outcome) → is_aborted_by o ≡ false → IsAbortOfKinds kinds o
of_none kinds (AbortedBy by status) h = absurd (cc)
of_none kinds (Aborted status) h = tt
of_none kinds Plain h = tt
of_none kinds Loaded h = tt
of_none kinds (Stopped stop) h = tt
of_none kinds Idle h = tt
of_none kinds Begun h = tt
of_none kinds Inside h = tt
of_none kinds Committed h = tt
of_none kinds Drained h = tt

-- one that is told of its step's event is of the kinds of that
of_told : (kinds : Kinds) (e : Option Event) (o : Outcome) → IsOfKinds kinds e → TellsOf e o → IsAbortOfKinds kinds o
of_told kinds e (AbortedBy by status) h (inl none) = absurd (cc)
of_told kinds e (AbortedBy by status) h (inr (inl same)) = subst (IsOfKinds kinds) (sym same) h
of_told kinds e (AbortedBy by status) h (inr (inr drained)) = absurd (cc)
of_told kinds e (Aborted status) h told = tt
of_told kinds e Plain h told = tt
of_told kinds e Loaded h told = tt
of_told kinds e (Stopped stop) h told = tt
of_told kinds e Idle h told = tt
of_told kinds e Begun h told = tt
of_told kinds e Inside h told = tt
of_told kinds e Committed h told = tt
of_told kinds e Drained h told = tt

not_aborted : (o : Outcome) → event_told o ≡ None → is_aborted_by o ≡ false
not_aborted (AbortedBy by status) h = absurd (cc)
not_aborted (Aborted status) h = refl
not_aborted Plain h = refl
not_aborted Loaded h = refl
not_aborted (Stopped stop) h = refl
not_aborted Idle h = refl
not_aborted Begun h = refl
not_aborted Inside h = refl
not_aborted Committed h = refl
not_aborted Drained h = refl

-- a step under no event
pub told_none : (o : Outcome) → TellsOf None o → is_aborted_by o ≡ false
told_none o (inl none) = not_aborted o none
told_none o (inr (inl none)) = not_aborted o none
told_none o (inr (inr drained)) = ap is_aborted_by drained

no_kind_comes : (e : Option Event) → IsOfKinds no_kinds e → e ≡ None
no_kind_comes None h = refl
no_kind_comes (Some (event.Abort Interrupt)) h = absurd (cc)
no_kind_comes (Some (event.Abort Eviction)) h = absurd (cc)
no_kind_comes (Some (event.Abort Snoop)) h = absurd (cc)
no_kind_comes (Some event.Drain) h = absurd (cc)

-- events have kinds
pub some_kinds : (events : Events) → (kinds : Kinds) × AreDrawn events kinds
some_kinds Never = (no_kinds, refl)
some_kinds (Rate one_in kinds) = (kinds, refl)
some_kinds Draw = (all_kinds, inr refl)

-- ---- lists of steps

abbrev Untold : ℕ × Outcome → Type 0
Untold step = is_aborted_by step.1 ≡ false

abbrev OfKinds : Kinds → ℕ × Outcome → Type 0
OfKinds kinds step = IsAbortOfKinds kinds step.1

drawn_nil : (events : Events) → TellDrawn events []
drawn_nil Never = All-nil Untold
drawn_nil (Rate one_in kinds) = All-nil (OfKinds kinds)
drawn_nil Draw = tt

drawn_append : (events : Events) (xs ys : List (ℕ × Outcome)) → TellDrawn events xs → TellDrawn events ys
    → TellDrawn events (xs ++ ys)
drawn_append Never xs ys first then = All-append Untold xs ys first then
drawn_append (Rate one_in kinds) xs ys first then = All-append (OfKinds kinds) xs ys first then
drawn_append Draw xs ys first then = tt

drawn_alone : (events : Events) (xs : List (ℕ × Outcome)) → TellNoAbort xs → TellDrawn events xs
drawn_alone Never xs h = h
drawn_alone (Rate one_in kinds) xs h =
    All-weaker Untold (OfKinds kinds) (λ x e. of_none kinds x.1 e) xs h
drawn_alone Draw xs h = tt

drawn_one : (events : Events) (kinds : Kinds) (e : Option Event) (c : ℕ) (o : Outcome) → AreDrawn events kinds
    → IsOfKinds kinds e → TellsOf e o → TellDrawn events ((c, o) ∷ [])
drawn_one Never kinds e c o drawn of told =
    let none : e ≡ None = no_kind_comes e (subst (λ (k : Kinds). IsOfKinds k e) drawn of) in
    All-cons Untold (c, o) [] (told_none o (subst (λ (x : Option Event). TellsOf x o) none told)) (All-nil Untold)
drawn_one (Rate one_in asked) kinds e c o drawn of told =
    let is : IsOfKinds asked e = subst (λ (k : Kinds). IsOfKinds k e) drawn of in
    All-cons (OfKinds asked) (c, o) [] (of_told asked e o is told) (All-nil (OfKinds asked))
drawn_one Draw kinds e c o drawn of told = tt

-- ---- boards

-- the board given has no new part
pub fresh_disturbed : (events : Events) (given b : ShownBoard) → b ≡ given → IsDisturbed events given b
fresh_disturbed events given b same =
    subst (λ (y : ShownBoard). IsDisturbed events given y) (sym same)
    (subst (λ l. TellDrawn events l) (sym (drop-length given.history)) (drawn_nil events))

-- more steps without events
pub alone_disturbed : (events : Events) (given b b' : ShownBoard) (c : ℕ) (was now : Progress) (made : ℕ)
    → GoesOn given b → AreStepsMade b b' c was now made → IsDisturbed events given b → IsDisturbed events given b'
alone_disturbed events given b b' c was now made g steps before =
    let more = steps.alone given g in
    subst (λ l. TellDrawn events l) (sym more.1)
    (drawn_append events (new_part given b) more.0 before (drawn_alone events more.0 more.2))

-- one more step, under an event or under none
pub step_disturbed : (events : Events) (kinds : Kinds) (e : Option Event) (given b b' : ShownBoard) (c : ℕ)
    (r : Receipt) → GoesOn given b → IsStepMade b b' c r → AreDrawn events kinds → IsOfKinds kinds e
    → TellsOf e r.outcome
    → IsDisturbed events given b → IsDisturbed events given b'
step_disturbed events kinds e given b b' c r g made drawn of told was =
    subst (λ l. TellDrawn events l) (sym (part_next given b b' c r g made))
    (drawn_append events (new_part given b) ((c, r.outcome) ∷ []) was
    (drawn_one events kinds e c r.outcome drawn of told))
