-- What is told by actions in a row.
use Rattle.std.proofs.Common.{◌≡◌, ℕ, suc, ◌+◌, ◌<◌, ◌≤◌, Bool, true, false, cond, not, List, [], ◌∷◌}
use Rattle.std.proofs.Common.{Option, Some, None, Result, Ok, Err}
use Rattle.std.proofs.Common.{refl, sym, ◌∙◌, ap, subst, take, drop, length, arith}
use Rattle.std.specs.Prelude.{◌==◌, nat_le, nat_lt}
use Rattle.std.specs.List.{position, position_or_len, prefix_len}
use Rattle.std.proofs.lemmas.Bool.Decides.{nat_tests}
use Rattle.std.proofs.Common.{◌⊎◌, inl, inr}
use Rattle.std.proofs.Math.Nat.{eq-or-lt_of_le}
use Rattle.std.proofs.lemmas.List.{take_all}
use Rattle.std.proofs.lemmas.List.Splits.{slice_split_first, slice_split_none}
use Rattle.std.proofs.lemmas.List.Sums.{fails_before_first}
use Rattle.gdb_packet.specs.declared.command.Action.{Action}
use Rattle.gdb_packet.specs.declared.command.Actions.{Actions}
use Rattle.gdb_packet.specs.declared.command.Command.{Command}
use Rattle.gdb_packet.specs.declared.command.Command.TheVariants as command
use Rattle.gdb_packet.specs.declared.command.Move.TheVariants as move
use Rattle.gdb_packet.specs.declared.command.Question.{Question}
use Rattle.gdb_packet.specs.declared.command.Question.TheVariants as question
use Rattle.gdb_packet.specs.declared.resume.ToldAction.{ToldAction}
use Rattle.gdb_packet.specs.Actions.{AreAdded, IsAdded, IsAddedOne, IsToldMove, ResumesWithRoom, actions_in}
use Rattle.gdb_packet.specs.Actions.{entry_says, in_front, leftmost, named_count, names, one_if, or_else, says_of}
use Rattle.gdb_packet.specs.Actions.{says_of_all, told_action, told_actions}
use Rattle.gdb_packet.proofs.Leftmost.{or_else_more, or_else_none}

-- where a text ends, or its first action
found_by : (b : Bool) (place n : ℕ) → Some place ≡ cond b (Some n) None → place ≡ n
found_by true place n h = cc
found_by false place n h = cc

pub end_found : (test : ℕ → Bool) (text : List ℕ) (place : ℕ) → Some place ≡ position test text
    → place ≡ position_or_len test text
end_found test text place h = found_by (nat_lt (position_or_len test text) (length text)) place _ h

longer : (b : Bool) (n m : ℕ) → n ≤ m → cond b (1 + n) 0 ≤ suc m
longer true n m h = omega arith
longer false n m h = omega arith

pub end_within : (test : ℕ → Bool) (text : List ℕ) → position_or_len test text ≤ length text
end_within test [] = omega arith
end_within test (byte ∷ text) = longer (not (test byte)) _ _ (end_within test text)

missing_by : (b : Bool) (n len : ℕ) → nat_lt n len ≡ b → n ≤ len → None ≡ cond b (Some n) None → len ≡ n
missing_by true n len is h none = cc
missing_by false n len is h none = grind (arith, nat_tests)

pub end_missing : (test : ℕ → Bool) (text : List ℕ) → None ≡ position test text
    → length text ≡ position_or_len test text
end_missing test text h =
    missing_by (nat_lt (position_or_len test text) (length text)) _ _ refl (end_within test text) h

-- the first of several actions, and the only one
first_of_more : (text : List ℕ) (end : ℕ) → end ≡ position_or_len (λ byte. byte == 59) text → end < length text
    → actions_in text ≡ take end text ∷ actions_in (drop (end + 1) text)
unfolding actions_in
first_of_more text end is h =
    let within : position_or_len (λ byte. byte == 59) text < length text = subst (λ n. n < length text) is h in
    slice_split_first (λ byte. byte == 59) text 0 within
    ∙ ap (λ n. take n text ∷ actions_in (drop (n + 1) text)) (sym is)

only_one : (text : List ℕ) (end : ℕ) → end ≡ position_or_len (λ byte. byte == 59) text → end ≡ length text
    → actions_in text ≡ take end text ∷ []
unfolding actions_in
only_one text end is h =
    slice_split_none (λ byte. byte == 59) text
    (λ k d l. fails_before_first (λ byte. byte == 59) text k d (subst (λ n. k < n) (sym h ∙ is) l))
    ∙ ap (λ l. l ∷ []) (sym (take_all end text (omega arith)))

-- one that is wrong
refused_first : (text : List ℕ) (others : List (List ℕ)) (asked : Question) → told_action text ≡ Err asked
    → told_actions (text ∷ others) ≡ Err asked
unfolding told_actions
refused_first text others asked h = ap (λ t. in_front t (told_actions others)) h

-- one was added, and is the only one
added_one : (told : ToldAction) (count more : ℕ) (old new : Actions) → IsAddedOne told count old new more
    → AreAdded (told ∷ []) count old new more
unfolding leftmost named_count
added_one told count more old new h = record {
  counted = omega (arith, h.counted);
  chosen = λ few thread. h.chosen few thread
      ∙ ap (or_else (leftmost (entry_says thread) old.chosen)) (sym (or_else_none (says_of thread told)));
  others = h.others ∙ ap (or_else old.others) (sym (or_else_none (says_of_all told)));
}

-- one was added, and others behind it
added_more : (told : ToldAction) (others : List ToldAction) (count more all : ℕ) (old middle new : Actions)
    → IsAddedOne told count old middle more → AreAdded others more middle new all
    → AreAdded (told ∷ others) count old new all
unfolding leftmost named_count
added_more told others count more all old middle new one rest = record {
  counted = omega (arith, one.counted, rest.counted);
  chosen = λ few thread. rest.chosen few thread
      ∙ ap (λ a. or_else a (leftmost (says_of thread) others)) (one.chosen (omega (arith, rest.counted, few)) thread)
      ∙ or_else_more (leftmost (entry_says thread) old.chosen) (says_of thread told) (leftmost (says_of thread) others);
  others = rest.others ∙ ap (λ a. or_else a (leftmost says_of_all others)) one.others
      ∙ or_else_more old.others (says_of_all told) (leftmost says_of_all others);
}

added_in_front : (told : ToldAction) (others : Result (List ToldAction) Question) (count more : ℕ)
    (old middle new : Actions)
    (all : Result ℕ Question) → IsAddedOne told count old middle more → IsAdded others more middle new all
    → IsAdded (in_front (Ok told) others) count old new all
added_in_front told (Err asked) count more old middle new all one rest = rest
added_in_front told (Ok others) count more old middle new (Err asked) one rest = rest
added_in_front told (Ok others) count more old middle new (Ok all) one rest =
    added_more told others count more all old middle new one rest

told_one : (text : List ℕ) (told : ToldAction) → told_action text ≡ Ok told → told_actions (text ∷ []) ≡ Ok (told ∷ [])
unfolding told_actions
told_one text told h = ap (λ t. in_front t (Ok [])) h

told_more : (text : List ℕ) (others : List (List ℕ)) (told : ToldAction) → told_action text ≡ Ok told
    → told_actions (text ∷ others) ≡ in_front (Ok told) (told_actions others)
unfolding told_actions
told_more text others told h = ap (λ t. in_front t (told_actions others)) h

refused_by : (text : List ℕ) (end : ℕ) (asked : Question) → end ≡ position_or_len (λ byte. byte == 59) text
    → told_action (take end text) ≡ Err asked → (end ≡ length text) ⊎ (end < length text)
    → told_actions (actions_in text) ≡ Err asked
refused_by text end asked is wrong (inl last) =
    ap told_actions (only_one text end is last) ∙ refused_first (take end text) [] asked wrong
refused_by text end asked is wrong (inr more) =
    ap told_actions (first_of_more text end is more) ∙ refused_first (take end text) _ asked wrong

-- the first is wrong, is the last, or has others behind it
pub refused : (text : List ℕ) (end : ℕ) (asked : Question) (count : ℕ) (old : Actions)
    → end ≡ position_or_len (λ byte. byte == 59) text → end ≤ length text → told_action (take end text) ≡ Err asked
    → IsAdded (told_actions (actions_in text)) count old old (Err asked)
refused text end asked count old is within wrong =
    let all : told_actions (actions_in text) ≡ Err asked =
    refused_by text end asked is wrong (eq-or-lt_of_le within) in
    subst (λ t. IsAdded t count old old (Err asked)) (sym all) refl

pub last_added : (text : List ℕ) (end : ℕ) (told : ToldAction) (count more : ℕ) (old new : Actions)
    → end ≡ position_or_len (λ byte. byte == 59) text → end ≡ length text → told_action (take end text) ≡ Ok told
    → IsAddedOne told count old new more → IsAdded (told_actions (actions_in text)) count old new (Ok more)
last_added text end told count more old new is last tells one =
    let all : told_actions (actions_in text) ≡ Ok (told ∷ []) =
    ap told_actions (only_one text end is last) ∙ told_one (take end text) told tells in
    subst (λ t. IsAdded t count old new (Ok more)) (sym all) (added_one told count more old new one)

pub first_added : (text : List ℕ) (end : ℕ) (told : ToldAction) (count more : ℕ) (old middle new : Actions)
    (all : Result ℕ Question)
    → end ≡ position_or_len (λ byte. byte == 59) text → end < length text → told_action (take end text) ≡ Ok told
    → IsAddedOne told count old middle more
    → IsAdded (told_actions (actions_in (drop (end + 1) text))) more middle new all
    → IsAdded (told_actions (actions_in text)) count old new all
first_added text end told count more old middle new all is further tells one others =
    let whole : told_actions (actions_in text) ≡ in_front (Ok told) (told_actions (actions_in (drop (end + 1) text))) =
    ap told_actions (first_of_more text end is further) ∙ told_more (take end text) _ told tells in
    subst (λ t. IsAdded t count old new all) (sym whole)
    (added_in_front told (told_actions (actions_in (drop (end + 1) text))) count more old middle new all one others)

-- the command of all
by_count : (b : Bool) (told : List ToldAction) (first new : Actions) (count : ℕ) (resumed : Command)
    → nat_le (named_count told) 64 ≡ b
    → ((thread : ℕ) → leftmost (entry_says thread) first.chosen ≡ None) → first.others ≡ None
    → AreAdded told 0 first new count
    → (count ≤ 64 → resumed ≡ command.Move (move.Resume new))
    → (64 < count → resumed ≡ command.Ask question.Malformed)
    → ResumesWithRoom b told resumed
by_count true told first new count resumed is none none_other added few many =
    let within : count ≤ 64 = grind (arith, nat_tests, added.counted) in
    record {
      actions = new;
      is = few within;
      each = λ thread.
          ap (λ a. or_else a new.others) (added.chosen within thread)
          ∙ ap (λ a. or_else (or_else a (leftmost (says_of thread) told)) new.others) (none thread)
          ∙ ap (or_else (leftmost (says_of thread) told))
          (added.others ∙ ap (λ a. or_else a (leftmost says_of_all told)) none_other);
    }
by_count false told first new count resumed is none none_other added few many =
    many (grind (arith, nat_tests, added.counted))

pub resumes_all : (told : Result (List ToldAction) Question) (first new : Actions) (count : ℕ) (resumed : Command)
    → ((thread : ℕ) → leftmost (entry_says thread) first.chosen ≡ None) → first.others ≡ None
    → IsAdded told 0 first new (Ok count)
    → (count ≤ 64 → resumed ≡ command.Move (move.Resume new))
    → (64 < count → resumed ≡ command.Ask question.Malformed) → IsToldMove told resumed
resumes_all (Err asked) first new count resumed none none_other added few many = cc
resumes_all (Ok told) first new count resumed none none_other added few many =
    by_count (nat_le (named_count told) 64) told first new count resumed refl none none_other added few many

pub refuses_all : (told : Result (List ToldAction) Question) (first new : Actions) (asked : Question)
    → IsAdded told 0 first new (Err asked) → IsToldMove told (command.Ask asked)
refuses_all (Err other) first new asked added = cc
refuses_all (Ok told) first new asked added = absurd added
