-- Sessions that grow by a line.
use Rattle.std.proofs.Common.{◌≡◌, ◌⊎◌, ◌==◌, ◌<◌, Bool, true, false, length, ℕ, List, [], ◌∷◌, ◌++◌, Option, Some}
use Rattle.std.proofs.Common.{refl, sym, ◌∙◌, ap, append-nil, append_assoc, inl, inr, subst}
use Rattle.std.specs.Prelude.{Result, Ok, Err}
use Rattle.tm_debug.specs.declared.interruption.Interruption.{Interruption}
use Rattle.ia_lex.specs.Lines.{lines_of}
use Rattle.text_out.specs.Writing.{Device, Rose, Wrote}
use Rattle.text_out.proofs.Writing.{wrote_none, wrote_then}
use Rattle.tm_debug.specs.declared.line.InputLine.{InputLine}
use Rattle.tm_debug.specs.declared.line.InputLine.TheVariants as read
use Rattle.tm_debug.specs.declared.session.Request.{Request}
use Rattle.tm_debug.specs.declared.session.Request.TheVariants.{Do, Nothing, Refuse}
use Rattle.debug_command.specs.declared.command.DebugCommand.{DebugCommand}
use Rattle.debug_command.specs.declared.command.DebugCommand.TheVariants as command
use Rattle.debug_command.specs.declared.manner.Manner.{Manner}
use Rattle.debug_command.specs.declared.manner.Manner.TheVariants.{Plain, Spoken}
use Rattle.debug_command.specs.declared.refusal.CommandRefusal.TheVariants.{LongLine}
use Rattle.debug_command.specs.Commands.{command_of}
use Rattle.symbols.specs.declared.symbol.Symbol.{Symbol}
use Rattle.debug_command.specs.Words.{first_word}
use Rattle.std.proofs.lemmas.Bool.{lt-ltb}
use Rattle.tm_debug.specs.declared.interruption.Interruption.TheVariants as interruption
use Rattle.tm_debug.specs.declared.state.Way.{Way}
use Rattle.tm_debug.specs.declared.state.Way.TheVariants.{AlongPlan, InTurn}
use Rattle.tm_debug.specs.Session.{AnswersBroken, Ends, SessionValue, bye_line, is_run_length, run_broken_by}
use Rattle.tm_debug.specs.Serving.{AnswersLines, BeginsLine, PromptedBroken, Responds, RespondsBroken, FailsToRead}
use Rattle.tm_debug.specs.Serving.{FailsToWrite, FindsNoMemory, FirstLine, IsEnded, IsLine, IsSession, LastBroken}
use Rattle.tm_debug.specs.Serving.{LinesRead, Replies, RepliesBroken, ServesInput, WantsMemory, devices, first_request}
use Rattle.tm_debug.specs.Serving.{given_back, request_by, request_of}
use Rattle.tm_debug.specs.declared.session.SessionFault.TheVariants as fault
use Rattle.tm_debug.proofs.Bytewise.{GivesLine}

went_more : (front : List (List ℕ)) (line : List ℕ) (p q s : SessionValue) (told answer : List ℕ)
    → AnswersLines front p told q → (request_of q.symbols line ≡ Do command.Quit → ⊥)
    → Replies (request_of q.symbols line) q answer s → AnswersLines (front ++ line ∷ []) p (told ++ answer) s
went_more [] line p q s told answer h stays r = record {
  between = s;
  answer = answer;
  others = [];
  stays = subst (λ (x : SessionValue). request_of x.symbols line ≡ Do command.Quit → ⊥) h.1 stays;
  replies = subst (λ (x : SessionValue). Replies (request_of x.symbols line) x answer s) h.1 r;
  go_on = (refl, refl);
  whole = ap (λ l. l ++ answer) h.0 ∙ sym (append-nil answer);
}
went_more (first ∷ front) line p q s told answer h stays r = record {
  between = h.between;
  answer = h.answer;
  others = h.others ++ answer;
  stays = h.stays;
  replies = h.replies;
  go_on = went_more front line h.between q s h.others answer h.go_on stays r;
  whole = ap (λ l. l ++ answer) h.whole ∙ append_assoc h.answer h.others answer;
}

-- the lines of these bytes, whatever follows; or nothing follows
abbrev pub Closed : List ℕ → List (List ℕ) → List ℕ → Type 0
Closed bytes front rest =
    ((rest ≡ []) × (lines_of bytes ≡ front)) ⊎ ((zs : List ℕ) → lines_of (bytes ++ zs) ≡ front ++ lines_of zs)

closed_lines : (bytes : List ℕ) (front : List (List ℕ)) (rest : List ℕ) → Closed bytes front rest
    → lines_of bytes ≡ front
closed_lines bytes front rest (inl end) = end.1
closed_lines bytes front rest (inr more) = ap lines_of (sym (append-nil bytes)) ∙ more [] ∙ append-nil front

closed_split : (bytes : List ℕ) (front : List (List ℕ)) (rest : List ℕ) → Closed bytes front rest
    → lines_of (bytes ++ rest) ≡ front ++ lines_of rest
closed_split bytes front rest (inl end) =
    ap (λ l. lines_of (bytes ++ l)) end.0 ∙ ap lines_of (append-nil bytes) ∙ end.1 ∙ sym (append-nil front)
    ∙ ap (λ l. front ++ lines_of l) (sym end.0)
closed_split bytes front rest (inr more) = more rest

first_split : (text xs ys bytes : List ℕ) → xs ≡ bytes ++ ys → IsEnded bytes text ys → lines_of xs ≡ text ∷ lines_of ys
first_split text xs ys bytes split (inl end) =
    ap lines_of split ∙ ap (λ l. lines_of (bytes ++ l)) end.0 ∙ ap lines_of (append-nil bytes) ∙ end.1
    ∙ ap (λ l. text ∷ lines_of l) (sym end.0)
first_split text xs ys bytes split (inr more) = ap lines_of split ∙ more ys

some_line : {X : Type 0} (text xs : List ℕ) (more : List (List ℕ)) → lines_of xs ≡ text ∷ more → xs ≡ [] → X
some_line text xs more lines none = let e : lines_of [] ≡ text ∷ more = ap lines_of (sym none) ∙ lines in cc

closed_ended : (bytes : List ℕ) (front : List (List ℕ)) (line ys next : List ℕ)
    → ((zs : List ℕ) → lines_of (bytes ++ zs) ≡ front ++ lines_of zs) → IsEnded next line ys
    → Closed (bytes ++ next) (front ++ line ∷ []) ys
closed_ended bytes front line ys next more (inl end) = inl (end.0, more next ∙ ap (λ l. front ++ l) end.1)
closed_ended bytes front line ys next more (inr after) =
    inr (λ zs. ap lines_of (append_assoc bytes next zs) ∙ more (next ++ zs) ∙ ap (λ l. front ++ l) (after zs)
    ∙ sym (append_assoc front (line ∷ []) (lines_of zs)))

closed_more : (bytes : List ℕ) (front : List (List ℕ)) (rest line ys : List ℕ) → Closed bytes front rest
    → (first : FirstLine line rest ys) → Closed (bytes ++ first.bytes) (front ++ line ∷ []) ys
closed_more bytes front rest line ys (inl end) first =
    some_line line rest (lines_of ys) (first_split line rest ys first.bytes first.split first.ended) end.0
closed_more bytes front rest line ys (inr more) first = closed_ended bytes front line ys first.bytes more first.ended

-- of a known input these lines were answered
pub record Known (xs : List ℕ) (left : Option (List ℕ)) (p q : SessionValue) (old new : Device) : Type 0 where
  pub front : List (List ℕ)
  pub told : List ℕ
  pub rest : List ℕ
  pub went : AnswersLines front p told q
  pub wrote : Wrote old new told
  pub is_left : left ≡ Some rest
  pub split : lines_of xs ≡ front ++ lines_of rest
  pub bytes : List ℕ
  pub parted : xs ≡ bytes ++ rest
  pub closed : Closed bytes front rest

pub record Serving (given left : Option (List ℕ)) (failed_old failed_new : ℕ) (p q : SessionValue)
    (old new : Device) : Type 0 where
  pub failed : failed_new ≡ failed_old
  pub failures : new.failures ≡ old.failures
  pub known : (xs : List ℕ) → given ≡ Some xs → Known xs left p q old new

pub serving_new : (given : Option (List ℕ)) (failed : ℕ) (p : SessionValue) (d : Device)
    → Serving given given failed failed p p d d
serving_new given failed p d = record {
  failed = refl;
  failures = refl;
  known = λ xs e. record {
    front = [];
    told = [];
    rest = xs;
    went = (refl, refl);
    wrote = wrote_none d;
    is_left = e;
    split = refl;
    bytes = [];
    parted = refl;
    closed = inr (λ zs. refl);
  };
}

abbrev pub Requests : List Symbol → Request → InputLine → Type 0
Requests symbols request line =
    ((text : List ℕ) → IsLine text line → request ≡ request_of symbols text)
    × (line ≡ read.End → request ≡ Do command.Quit)

pub serving_more : {a b c : Option (List ℕ)} {f g h : ℕ} {d0 d1 d2 : Device} (p q s : SessionValue) (line : InputLine)
    (request : Request) → Serving a b f g p q d0 d1 → GivesLine b c line → h ≡ g → Requests q.symbols request line
    → (request ≡ Do command.Quit → ⊥) →
    (text : List ℕ) × Replies request q text s × Wrote d1 d2 text → Serving a c f h p s d0 d2
serving_more p q s line request so_far gives same requests stays done = record {
  failed = same ∙ so_far.failed;
  failures = done.2.failures ∙ so_far.failures;
  known = λ xs e.
      let k = so_far.known xs e in
      let next = gives k.rest k.is_left in
      elim (next.2) [
        | inl end ↦ absurd (stays (requests.1 end.0))
        | inr one ↦ record {
          front = k.front ++ one.0 ∷ [];
          told = k.told ++ done.0;
          rest = next.0;
          went = went_more k.front one.0 p q s k.told done.0 k.went (λ e. stays (requests.0 one.0 one.1 ∙ e))
              (subst (λ (w : Request). Replies w q done.0 s) (requests.0 one.0 one.1) done.1);
          wrote = wrote_then k.wrote done.2;
          is_left = next.1;
          split = k.split ∙ ap (λ l. k.front ++ l) (first_split one.0 k.rest next.0 one.2.bytes one.2.split one.2.ended)
              ∙ sym (append_assoc k.front (one.0 ∷ []) (lines_of next.0));
          bytes = k.bytes ++ one.2.bytes;
          parted = k.parted ∙ ap (λ l. k.bytes ++ l) one.2.split ∙ sym (append_assoc k.bytes one.2.bytes next.0);
          closed = closed_more k.bytes k.front k.rest one.0 next.0 k.closed one.2;
        }
      ];
}

-- the lines that were answered, and the one that was read then
record Taken (symbols : List Symbol) (xs : List ℕ) (left : Option (List ℕ)) (front : List (List ℕ))
    (request : Request) : Type 0 where
  rest : List ℕ
  is_left : left ≡ Some rest
  last : List (List ℕ)
  taken : LinesRead xs rest front last
  asks : first_request symbols last ≡ request

taken_end : {left : Option (List ℕ)} (symbols : List Symbol) (xs ys bytes : List ℕ) (front : List (List ℕ))
    (before : List ℕ) (line : InputLine) (request : Request) → left ≡ Some ys → xs ≡ bytes ++ before
    → Closed bytes front before →
    lines_of xs ≡ front ++ lines_of before → Requests symbols request line → line ≡ read.End → before ≡ [] → ys ≡ []
    → Taken symbols xs left front request
taken_end symbols xs ys bytes front before line request is_left parted closed split requests end none left =
    let same = closed_lines bytes front before closed in
    record {
      rest = ys;
      is_left = is_left;
      last = [];
      taken = record {
        read = bytes;
        whole = parted ∙ ap (λ l. bytes ++ l) (none ∙ sym left);
        lines = split ∙ ap (λ l. l ++ lines_of before) (sym same)
            ∙ ap (λ l. lines_of bytes ++ lines_of l) (none ∙ sym left);
        split = same ∙ sym (append-nil front);
        one = inr (refl, left);
      };
      asks = sym (requests.1 end);
    }

taken_line : {left : Option (List ℕ)} (symbols : List Symbol) (xs ys bytes : List ℕ) (front : List (List ℕ))
    (before text : List ℕ) (line : InputLine) (request : Request) → left ≡ Some ys → xs ≡ bytes ++ before
    → Closed bytes front before →
    Requests symbols request line → IsLine text line
    → (one : FirstLine text before ys) → Taken symbols xs left front request
taken_line symbols xs ys bytes front before text line request is_left parted closed requests is_line one =
    let now = closed_more bytes front before text ys closed one in
    let taken = bytes ++ one.bytes in
    let lines = front ++ text ∷ [] in
    let whole : xs ≡ taken ++ ys = parted ∙ ap (λ l. bytes ++ l) one.split ∙ sym (append_assoc bytes one.bytes ys) in
    let same : lines_of taken ≡ lines = closed_lines taken lines ys now in
    record {
      rest = ys;
      is_left = is_left;
      last = text ∷ [];
      taken = record {
        read = taken;
        whole = whole;
        lines = ap lines_of whole ∙ closed_split taken lines ys now ∙ ap (λ l. l ++ lines_of ys) (sym same);
        split = same;
        one = inl refl;
      };
      asks = sym (requests.0 text is_line);
    }

takes : {b c : Option (List ℕ)} (xs : List ℕ) (p q : SessionValue) (d0 d1 : Device) (line : InputLine)
    (request : Request) → (k : Known xs b p q d0 d1) → GivesLine b c line → Requests q.symbols request line
    → Taken q.symbols xs c k.front request
takes xs p q d0 d1 line request k gives requests =
    let next = gives k.rest k.is_left in
    elim (next.2) [
      | inl end ↦ taken_end q.symbols xs next.0 k.bytes k.front k.rest line request next.1 k.parted k.closed k.split
          requests end.0 end.1 end.2
      | inr one ↦ taken_line q.symbols xs next.0 k.bytes k.front k.rest one.0 line request next.1 k.parted k.closed
          requests one.1 one.2
    ]

serving_ends : {a b c : Option (List ℕ)} {f g : ℕ} {d0 d1 d2 : Device} (p q : SessionValue) (line : InputLine)
    (request : Request) → Serving a b f g p q d0 d1 → GivesLine b c line → Requests q.symbols request line
    → request ≡ Do command.Quit → Wrote d1 d2 bye_line →
    ServesInput a c p d0 d2 q.board
serving_ends {a} {b} {c} {f} {g} {d0} {d1} {d2} p q line request so_far gives requests quit wrote xs e =
    let k = so_far.known xs e in
    let t = takes xs p q d0 d1 line request k gives requests in (
      t.rest,
      k.told ++ bye_line,
      q,
      t.is_left,
      record {
        front = k.front;
        last = t.last;
        taken = t.taken;
        told = k.told;
        went = k.went;
        ends = t.asks ∙ quit;
        whole = refl;
      },
      refl,
      wrote_then k.wrote wrote,
    )

-- the input failed before a line was read to its end
fails_to_read : {a b c : Option (List ℕ)} {f g : ℕ} {d0 d1 : Device} (p q : SessionValue)
    → Serving a b f g p q d0 d1 → ((xs : List ℕ) → b ≡ Some xs → (ys : List ℕ) × (c ≡ Some ys) × BeginsLine xs ys) →
    FailsToRead a c p d0 d1 q.board
fails_to_read p q so_far begins xs e =
    let k = so_far.known xs e in
    let next = begins k.rest k.is_left in
    let same = closed_lines k.bytes k.front k.rest k.closed in (
      next.0,
      k.told,
      q,
      next.1,
      record {
        read = k.bytes;
        begun = next.2.begun;
        whole = k.parted ∙ ap (λ l. k.bytes ++ l) next.2.split;
        lines =
            k.split ∙ ap (λ l. l ++ lines_of k.rest) (sym same) ∙ ap (λ l. lines_of k.bytes ++ lines_of l) next.2.split;
        no_feed = next.2.no_feed;
        went = subst (λ (l : List (List ℕ)). AnswersLines l p k.told q) (sym same) k.went;
      },
      refl,
      k.wrote,
    )

-- the answer to the line that was read last was not written whole
fails_to_write : {a b c : Option (List ℕ)} {f g : ℕ} {d0 d1 d2 : Device} (p q s : SessionValue) (line : InputLine)
    (request : Request) → Serving a b f g p q d0 d1 → GivesLine b c line → Requests q.symbols request line →
    LastBroken request q d1 d2 s → FailsToWrite a c p d0 d2 s.board
fails_to_write {a} {b} {c} {f} {g} {d0} {d1} {d2} p q s line request so_far gives requests broken xs e =
    let k = so_far.known xs e in
    let t = takes xs p q d0 d1 line request k gives requests in (
      t.rest,
      s,
      t.is_left,
      record {
        front = k.front;
        last = t.last;
        taken = t.taken;
        told = k.told;
        before = q;
        between = d1;
        went = k.went;
        wrote = k.wrote;
        broken = subst (λ (w : Request). LastBroken w q d1 d2 s) (sym t.asks) broken;
      },
      refl,
    )

rose_after : {a b c : ℕ} → b ≡ a → Rose b c → Rose a c
rose_after {a} {b} {c} e h = subst (λ n. Rose n c) e h

pub long_request : (symbols : List Symbol) (text : List ℕ) → 256 < length text
    → Refuse LongLine ≡ request_of symbols text
unfolding request_of
long_request symbols text h =
    ap (λ b. request_by b (length (first_word text) == 0) (command_of symbols text)) (sym (lt-ltb 256 (length text) h))

run_rose : (way : Way) (number : ℕ) (q s : SessionValue) (b : Bool) (d1 d2 : Device)
    → run_broken_by b way number q d1 d2 s → Rose d1.failures d2.failures
run_rose way number q s true d1 d2 broken = rose_after broken.wrote.failures broken.stopped.failures
run_rose way number q s false d1 d2 broken = broken.2.failures

broken_rose : (command : DebugCommand) (q s : SessionValue) (d1 d2 : Device) → AnswersBroken command q d1 d2 s
    → Rose d1.failures d2.failures
broken_rose (command.Run number) q s d1 d2 broken = run_rose InTurn number q s (is_run_length number) d1 d2 broken
broken_rose (command.Next number) q s d1 d2 broken = run_rose AlongPlan number q s (is_run_length number) d1 d2 broken
broken_rose (command.Step core event) q s d1 d2 broken = broken.2.failures
broken_rose (command.Back count) q s d1 d2 broken = broken.2.failures
broken_rose (command.Break address) q s d1 d2 broken = broken.2.failures
broken_rose (command.Clear address) q s d1 d2 broken = broken.2.failures
broken_rose (command.Regs core) q s d1 d2 broken = broken.2.failures
broken_rose (command.Mem at number) q s d1 d2 broken = broken.2.failures
broken_rose (command.Sets core) q s d1 d2 broken = broken.2.failures
broken_rose (command.Why core) q s d1 d2 broken = broken.2.failures
broken_rose (command.Pending core) q s d1 d2 broken = broken.2.failures
broken_rose (command.List at number) q s d1 d2 broken = broken.2.failures
broken_rose command.Help q s d1 d2 broken = broken.2.failures
broken_rose command.Quit q s d1 d2 broken = broken.2.failures

responded_rose : (request : Request) (q s : SessionValue) (d1 d2 : Device) → RespondsBroken request q d1 d2 s
    → Rose d1.failures d2.failures
responded_rose Nothing q s d1 d2 broken = absurd broken
responded_rose (Refuse refusal) q s d1 d2 broken = broken.2.failures
responded_rose (Do command) q s d1 d2 broken = broken_rose command q s d1 d2 broken

prompted_rose : (manner : Manner) (request : Request) (q s : SessionValue) (d1 d2 : Device)
    → PromptedBroken manner (Responds request q) (RespondsBroken request q) d1 d2 s → Rose d1.failures d2.failures
prompted_rose Plain request q s d1 d2 broken = responded_rose request q s d1 d2 broken
prompted_rose Spoken request q s d1 d2 (inl broken) = responded_rose request q s d1 d2 broken
prompted_rose Spoken request q s d1 d2 (inr stopped) = rose_after stopped.3.failures stopped.4.failures

replied_rose : (request : Request) (q s : SessionValue) (d1 d2 : Device) → RepliesBroken request q d1 d2 s
    → Rose d1.failures d2.failures
replied_rose request q s d1 d2 broken = prompted_rose q.manner request q s d1 d2 broken

-- the answer to a line wanted memory
wanted : {a b c : Option (List ℕ)} {f g : ℕ} {d0 d1 : Device} (d2 : Device) (p q s : SessionValue) (line : InputLine)
    (request : Request) → Serving a b f g p q d0 d1 → GivesLine b c line → Requests q.symbols request line
    → WantsMemory request → s ≡ q → Wrote d1 d2 [] → FindsNoMemory a c p d0 d2 s.board
wanted {a} {b} {c} {f} {g} {d0} {d1} d2 p q s line request so_far gives requests wants same wrote xs e =
    let k = so_far.known xs e in
    let t = takes xs p q d0 d1 line request k gives requests in (
      t.rest,
      k.told,
      s,
      t.is_left,
      record {
        front = k.front;
        last = t.last;
        taken = t.taken;
        went = subst (λ (x : SessionValue). AnswersLines k.front p k.told x) (sym same) k.went;
        wants = subst (λ (x : SessionValue). WantsMemory (first_request x.symbols t.last)) (sym same)
            (subst (λ (w : Request). WantsMemory w) (sym t.asks) wants);
      },
      refl,
      subst (λ (l : List ℕ). Wrote d0 d2 l) (append-nil k.told) (wrote_then k.wrote wrote),
    )

-- ---- what a session gives back

-- no further line was read to its end
pub unread : {a b c : Option (List ℕ)} {f g h : ℕ} {d0 d1 : Device} (p q : SessionValue)
    → Serving a b f g p q d0 d1 → Rose g h →
    ((xs : List ℕ) → b ≡ Some xs → (ys : List ℕ) × (c ≡ Some ys) × BeginsLine xs ys)
    → IsSession Plain p (devices f a d0) (devices h c d1) (Err (fault.Read q.board))
unread p q so_far rose begins = (rose_after so_far.failed rose, fails_to_read p q so_far begins)

-- the answer to `quit` ends the session
pub left : {a b c : Option (List ℕ)} {f g : ℕ} {d0 d1 : Device} (h : ℕ) (d2 : Device)
    (p q s : SessionValue) (line : InputLine)
    (request : Request) (r : Result (Unit {0}) Interruption) → Serving a b f g p q d0 d1 → GivesLine b c line
    → Requests q.symbols request line → request ≡ Do command.Quit →
    Ends (Responds request q) (RespondsBroken request q) d1 d2 q s r
    → (r ≡ Err interruption.NoMemory → WantsMemory request)
    → IsSession Plain p (devices f a d0) (devices h c d2) (given_back r s.board)
left {a} {b} {c} {f} {g} {d0} {d1} h d2 p q s line request (Ok done) so_far gives requests quit ends wants =
    let told = subst (λ (w : Request). Responds w q ends.0 s) quit ends.1 in
    subst (λ (x : SessionValue). ServesInput a c p d0 d2 x.board) (sym told.1)
    (serving_ends p q line request so_far gives requests quit (subst (λ (l : List ℕ). Wrote d1 d2 l) told.0 ends.2))
left {a} {b} {c} {f} {g} {d0} {d1} h d2 p q s line request (Err interruption.Write) so_far gives requests quit
    ends wants = (
      rose_after so_far.failures (responded_rose request q s d1 d2 ends),
      fails_to_write p q s line request so_far gives requests (inl (quit, ends)),
    )
left h d2 p q s line request (Err interruption.NoMemory) so_far gives requests quit ends wants =
    absurd (subst WantsMemory quit (wants refl))
left h d2 p q s line request (Err interruption.Read) so_far gives requests quit ends wants = absurd ends

-- a line was not answered whole, with its prompt
pub unanswered : {a b c : Option (List ℕ)} {f g : ℕ} {d0 d1 : Device} (h : ℕ) (d2 : Device) (p q s : SessionValue)
    (line : InputLine) (request : Request) (why : Interruption) → Serving a b f g p q d0 d1 → GivesLine b c line
    → Requests q.symbols request line → (request ≡ Do command.Quit → ⊥) →
    Ends (Replies request q) (RepliesBroken request q) d1 d2 q s (Err why)
    → (why ≡ interruption.NoMemory → WantsMemory request)
    → IsSession Plain p (devices f a d0) (devices h c d2) (given_back (Err why) s.board)
unanswered {a} {b} {c} {f} {g} {d0} {d1} h d2 p q s line request interruption.Write so_far gives requests stays
    ends wants = (
      rose_after so_far.failures (replied_rose request q s d1 d2 ends),
      fails_to_write p q s line request so_far gives requests (inr (stays, ends)),
    )
unanswered h d2 p q s line request interruption.NoMemory so_far gives requests stays ends wants =
    wanted d2 p q s line request so_far gives requests (wants refl) ends.0 ends.1
unanswered h d2 p q s line request interruption.Read so_far gives requests stays ends wants = absurd ends
