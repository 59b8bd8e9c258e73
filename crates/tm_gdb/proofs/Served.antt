-- What was heard so far was done.
use Rattle.std.proofs.Common.{◌≡◌, ℕ, Bool, true, false, List, [], ◌∷◌, ◌++◌, Option, Some, None, option_to_list}
use Rattle.std.proofs.Common.{refl, sym, ◌∙◌, ap}
use Rattle.std.proofs.Common.{append-nil, append_assoc, inl, inr, subst}
use Rattle.std.specs.Prelude.{IfOk, Result, Ok, Err}
use Rattle.std.specs.Io.KnownBytes.{Keeps}
use Rattle.gdb_packet.specs.declared.heard.Heard.{Heard}
use Rattle.gdb_packet.specs.declared.heard.Heard.TheVariants.{Nothing, Packet, Damaged, TooLong, Interrupt}
use Rattle.gdb_packet.specs.declared.heard.Heard.TheVariants.{Received, Resend}
use Rattle.gdb_packet.specs.declared.heard.Heard.TheVariants.{Stray}
use Rattle.gdb_packet.specs.declared.reader.Reader.{Reader}
use Rattle.gdb_packet.specs.Reading.{Hears, Is, IsBehind}
use Rattle.text_out.specs.Writing.{Device, Wrote}
use Rattle.text_out.proofs.Writing.{wrote_none, wrote_then}
use Rattle.tm_hist.specs.Board.{SameBoard, ShownBoard}
use Rattle.tm_gdb.specs.Serving.{DoesAll, FailsToRead, ServesInput}
use Rattle.tm_gdb.specs.Sessions.{IsDone, IsWritten, SessionValue}
use Rattle.tm_gdb.specs.States.{IsHeard, Puts}
use Rattle.tm_gdb.specs.declared.session.Interruption.{Interruption}

-- one whole more
does_more : (heard : List Heard) (one : Heard) (bytes own : List ℕ) (from mid to : SessionValue) (told answer : List ℕ)
    → DoesAll heard bytes from told mid → Is own one → IsDone one mid answer to true
    → DoesAll (heard ++ one ∷ []) (bytes ++ own) from (told ++ answer) to
does_more [] one bytes own from mid to told answer does is done = record {
  own = own;
  others = [];
  bytes_are = ap (λ l. l ++ own) does.0 ∙ sym (append-nil own);
  is = is;
  between = to;
  answer = answer;
  texts = [];
  done = subst (λ (x : SessionValue). IsDone one x answer to true) does.2 done;
  go_on = (refl, refl, refl);
  text_is = ap (λ l. l ++ answer) does.1 ∙ sym (append-nil answer);
}
does_more (first ∷ heard) one bytes own from mid to told answer does is done = record {
  own = does.own;
  others = does.others ++ own;
  bytes_are = ap (λ l. l ++ own) does.bytes_are ∙ append_assoc does.own does.others own;
  is = does.is;
  between = does.between;
  answer = does.answer;
  texts = does.texts ++ answer;
  done = does.done;
  go_on = does_more heard one does.others own does.between mid to does.texts answer does.go_on is done;
  text_is = ap (λ l. l ++ answer) does.text_is ∙ append_assoc does.answer does.texts answer;
}

-- of a known input these wholes were heard and done, and these bytes since
pub record Known (input : List ℕ) (left : Option (List ℕ)) (reader : Reader) (from to : SessionValue) (old new : Device)
    : Type 0 where
  pub heard : List Heard
  pub front : List ℕ
  pub begun : List ℕ
  pub rest : List ℕ
  pub told : List ℕ
  pub is_left : left ≡ Some rest
  pub input_is : input ≡ front ++ (begun ++ rest)
  pub behind : IsBehind begun reader
  pub does : DoesAll heard front from told to
  pub wrote : Wrote old new told

pub record Serving (given left : Option (List ℕ)) (failed_old failed_new : ℕ) (reader : Reader) (from to : SessionValue)
    (old new : Device) : Type 0 where
  pub failed : failed_new ≡ failed_old
  pub failures : new.failures ≡ old.failures
  pub known : (input : List ℕ) → given ≡ Some input → Known input left reader from to old new

pub serving_new : (given : Option (List ℕ)) (failed : ℕ) (reader : Reader) (from : SessionValue) (device : Device)
    → IsBehind [] reader → Serving given given failed failed reader from from device device
serving_new given failed reader from device behind = record {
  failed = refl;
  failures = refl;
  known = λ input e. record {
    heard = [];
    front = [];
    begun = [];
    rest = input;
    told = [];
    is_left = e;
    input_is = refl;
    behind = behind;
    does = (refl, refl, refl);
    wrote = wrote_none device;
  };
}

abbrev pub ReadsByte : Option (List ℕ) → Option (List ℕ) → Option ℕ → Type 0
ReadsByte old new byte = (bytes : List ℕ) → old ≡ Some bytes → (rest : List ℕ) × (new ≡ Some rest)
    × (bytes ≡ option_to_list byte ++ rest) × (byte ≡ None → rest ≡ [])

-- the bytes that were heard since the last whole, with one more
bytes_more : (front begun rest later : List ℕ) (byte : ℕ) (input : List ℕ) → input ≡ front ++ (begun ++ rest)
    → rest ≡ byte ∷ later → input ≡ front ++ ((begun ++ byte ∷ []) ++ later)
bytes_more front begun rest later byte input is next =
    is ∙ ap (λ l. front ++ (begun ++ l)) next ∙ ap (λ l. front ++ l) (sym (append_assoc begun (byte ∷ []) later))

-- no whole yet
still_begun : {input later : List ℕ} {b c : Option (List ℕ)} {old_reader : Reader}
    {from mid : SessionValue} {d0 d1 : Device}
    (reader : Reader) (to : SessionValue) (d2 : Device) (byte : ℕ) (text : List ℕ)
    → (k : Known input b old_reader from mid d0 d1) → c ≡ Some later → k.rest ≡ byte ∷ later
    → IsBehind (k.begun ++ byte ∷ []) reader → IsWritten [] mid text to true → Wrote d1 d2 text
    → Known input c reader from to d0 d2
still_begun {input} {later} {from = from} reader to d2 byte text k left next behind done wrote = record {
  heard = k.heard;
  front = k.front;
  begun = k.begun ++ byte ∷ [];
  rest = later;
  told = k.told ++ text;
  is_left = left;
  input_is = bytes_more k.front k.begun k.rest later byte input k.input_is next;
  behind = behind;
  does =
      let told : k.told ≡ k.told ++ text = sym (ap (λ l. k.told ++ l) done.0 ∙ append-nil k.told) in
      subst (λ (l : List ℕ). DoesAll k.heard k.front from l to) told
      (subst (λ (x : SessionValue). DoesAll k.heard k.front from k.told x) (sym done.1) k.does);
  wrote = wrote_then k.wrote wrote;
}

-- one whole more was heard and done
whole_more : {input later : List ℕ} {b c : Option (List ℕ)} {old_reader : Reader}
    {from mid : SessionValue} {d0 d1 : Device}
    (one : Heard) (reader : Reader) (to : SessionValue) (d2 : Device) (byte : ℕ) (text : List ℕ)
    → (k : Known input b old_reader from mid d0 d1) → c ≡ Some later → k.rest ≡ byte ∷ later
    → Is (k.begun ++ byte ∷ []) one → IsBehind [] reader → IsDone one mid text to true → Wrote d1 d2 text
    → Known input c reader from to d0 d2
whole_more {input} {later} {from = from} {mid = mid} one reader to d2 byte text k left next is behind done
    wrote = record {
      heard = k.heard ++ one ∷ [];
      front = k.front ++ (k.begun ++ byte ∷ []);
      begun = [];
      rest = later;
      told = k.told ++ text;
      is_left = left;
      input_is = bytes_more k.front k.begun k.rest later byte input k.input_is next
          ∙ sym (append_assoc k.front (k.begun ++ byte ∷ []) later);
      behind = behind;
      does = does_more k.heard one k.front (k.begun ++ byte ∷ []) from mid to k.told text k.does is done;
      wrote = wrote_then k.wrote wrote;
    }

known_more : {input later : List ℕ} {b c : Option (List ℕ)} {old_reader : Reader}
    {from mid : SessionValue} {d0 d1 : Device}
    (one : Heard) (reader : Reader) (to : SessionValue) (d2 : Device) (byte : ℕ) (text : List ℕ)
    → (k : Known input b old_reader from mid d0 d1) → c ≡ Some later → k.rest ≡ byte ∷ later
    → Hears (k.begun ++ byte ∷ []) one reader → IsDone one mid text to true → Wrote d1 d2 text
    → Known input c reader from to d0 d2
known_more Nothing reader to d2 byte text k left next hears done wrote =
    still_begun reader to d2 byte text k left next hears done wrote
known_more (Packet bytes) reader to d2 byte text k left next hears done wrote =
    whole_more (Packet bytes) reader to d2 byte text k left next hears.0 hears.1 done wrote
known_more Damaged reader to d2 byte text k left next hears done wrote =
    whole_more Damaged reader to d2 byte text k left next hears.0 hears.1 done wrote
known_more TooLong reader to d2 byte text k left next hears done wrote =
    whole_more TooLong reader to d2 byte text k left next hears.0 hears.1 done wrote
known_more Interrupt reader to d2 byte text k left next hears done wrote =
    whole_more Interrupt reader to d2 byte text k left next hears.0 hears.1 done wrote
known_more Received reader to d2 byte text k left next hears done wrote =
    whole_more Received reader to d2 byte text k left next hears.0 hears.1 done wrote
known_more Resend reader to d2 byte text k left next hears done wrote =
    whole_more Resend reader to d2 byte text k left next hears.0 hears.1 done wrote
known_more (Stray stray) reader to d2 byte text k left next hears done wrote =
    whole_more (Stray stray) reader to d2 byte text k left next hears.0 hears.1 done wrote

-- a byte more was heard, and the session goes on
pub serving_more : {a b c : Option (List ℕ)} {f g h : ℕ} {d0 d1 : Device} (before reader : Reader)
    (from mid to : SessionValue) (d2 : Device) (byte : ℕ) (on : Bool) → Serving a b f g before from mid d0 d1
    → ReadsByte b c (Some byte) → h ≡ g → IsHeard byte before reader mid to on d1 d2 → on ≡ true
    → Serving a c f h reader from to d0 d2
serving_more before reader from mid to d2 byte on so_far reads same heard goes = record {
  failed = same ∙ so_far.failed;
  failures = heard.wrote.failures ∙ so_far.failures;
  known = λ input e.
      let k = so_far.known input e in
      let after = reads k.rest k.is_left in
      known_more heard.heard reader to d2 byte heard.text k after.1 after.2 (heard.hears k.begun k.behind)
      (subst (λ (b : Bool). IsDone heard.heard mid heard.text to b) goes heard.done) heard.wrote;
}

-- the input has ended
pub serves_end : {a b c : Option (List ℕ)} {f g : ℕ} {d0 d1 : Device} (reader : Reader) (from to : SessionValue)
    → Serving a b f g reader from to d0 d1 → ReadsByte b c None → ServesInput a c from d0 d1 to.target.board
serves_end reader from to so_far reads input e =
    let k = so_far.known input e in
    let after = reads k.rest k.is_left in (
      after.0,
      k.told,
      to,
      after.1,
      record {
        heard = k.heard;
        front = k.front;
        end = k.begun;
        input_is = k.input_is ∙ ap (λ l. k.front ++ (k.begun ++ l)) after.2;
        between = to;
        told = k.told;
        last = [];
        does = k.does;
        ended = inl ((reader, k.behind), after.3 refl, refl, refl);
        text_is = sym (append-nil k.told);
      },
      refl,
      k.wrote,
    )

-- what was heard last, where it is a whole
last_is : {G : Type 0} (bytes : List ℕ) (one : Heard) (reader : Reader) (from to : SessionValue) (text : List ℕ)
    → Hears bytes one reader → IsDone one from text to false → (Is bytes one → G) → G
last_is bytes Nothing reader from to text hears done then = let e = done.2 in absurd (cc)
last_is bytes (Packet row) reader from to text hears done then = then hears.0
last_is bytes Damaged reader from to text hears done then = then hears.0
last_is bytes TooLong reader from to text hears done then = then hears.0
last_is bytes Interrupt reader from to text hears done then = then hears.0
last_is bytes Received reader from to text hears done then = then hears.0
last_is bytes Resend reader from to text hears done then = then hears.0
last_is bytes (Stray byte) reader from to text hears done then = then hears.0

-- a packet has ended the session
pub serves_last : {a b c : Option (List ℕ)} {f g : ℕ} {d0 d1 : Device} (before reader : Reader)
    (from mid to : SessionValue) (d2 : Device) (byte : ℕ) (on : Bool) → Serving a b f g before from mid d0 d1
    → ReadsByte b c (Some byte) → IsHeard byte before reader mid to on d1 d2 → on ≡ false
    → ServesInput a c from d0 d2 to.target.board
serves_last before reader from mid to d2 byte on so_far reads heard ends input e =
    let k = so_far.known input e in
    let after = reads k.rest k.is_left in
    let done = subst (λ (b : Bool). IsDone heard.heard mid heard.text to b) ends heard.done in (
      after.0,
      k.told ++ heard.text,
      to,
      after.1,
      record {
        heard = k.heard;
        front = k.front;
        end = k.begun ++ byte ∷ [];
        input_is = bytes_more k.front k.begun k.rest after.0 byte input k.input_is after.2;
        between = mid;
        told = k.told;
        last = heard.text;
        does = k.does;
        ended = last_is (k.begun ++ byte ∷ []) heard.heard reader mid to heard.text (heard.hears k.begun k.behind) done
            (λ is. inr (record { heard = heard.heard; is = is; done = done }));
        text_is = refl;
      },
      refl,
      wrote_then k.wrote heard.wrote,
    )

kept_is : (b c : Option (List ℕ)) (bytes : List ℕ) → b ≡ Some bytes → Keeps b c → c ≡ Some bytes
kept_is None c bytes e h = cc
kept_is (Some xs) None bytes e h = absurd h
kept_is (Some xs) (Some ys) bytes e h = ap Some h ∙ e

-- the input has failed
pub fails_to_read : {a b c : Option (List ℕ)} {f g : ℕ} {d0 d1 : Device} (reader : Reader) (from to : SessionValue)
    → Serving a b f g reader from to d0 d1 → Keeps b c → FailsToRead a c from d0 d1 to.target.board
fails_to_read {a} {b} {c} reader from to so_far keeps input e =
    let k = so_far.known input e in (
      k.rest,
      k.told,
      to,
      kept_is b c k.rest k.is_left keeps,
      record {
        heard = k.heard;
        front = k.front;
        end = k.begun;
        input_is = k.input_is;
        does = k.does;
        begun = (reader, k.behind);
      },
      refl,
      k.wrote,
    )

-- what was heard is this one, of which a text was written, and the session goes on as it was
pub is_written : (result : Result Bool Interruption) (wanted : List ℕ) (heard known : Heard) (from : SessionValue)
    (before after : Device) → heard ≡ known
    → ((text : List ℕ) (on : Bool) → IsWritten wanted from text from on → IsDone known from text from on)
    → Puts wanted before after result → IfOk result (λ on. on ≡ true)
    → IfOk result (λ on. (text : List ℕ) × IsDone heard from text from on × Wrote before after text)
is_written (Ok on) wanted heard known from before after is done wrote goes = (
  wanted,
  subst (λ (h : Heard). IsDone h from wanted from on) (sym is) (done wanted on (refl, refl, goes)),
  wrote,
)
is_written (Err fault) wanted heard known from before after is done failed goes = tt

-- and of which nothing was written
pub none_written : (heard known : Heard) (from : SessionValue) (device : Device) → heard ≡ known
    → (IsWritten [] from [] from true → IsDone known from [] from true)
    → (text : List ℕ) × IsDone heard from text from true × Wrote device device text
none_written heard known from device is done = (
  [],
  subst (λ (h : Heard). IsDone h from [] from true) (sym is) (done (refl, refl, refl)),
  wrote_none device,
)

-- what is to be done of a byte was done
pub heard_is : {E : Type 0} (result : Result Bool E) (byte : ℕ) (old mid new : Reader) (from between to : SessionValue)
    (before after : Device) (heard : Heard)
    → ((since : List ℕ) → IsBehind since old → Hears (since ++ byte ∷ []) heard mid) → new ≡ mid → between ≡ from
    → IfOk result (λ on. (text : List ℕ) × IsDone heard between text to on × Wrote before after text)
    → IfOk result (λ on. IsHeard byte old new from to on before after)
heard_is (Ok on) byte old mid new from between to before after heard hears reader same done = record {
  heard = heard;
  hears = λ since behind.
      subst (λ (r : Reader). Hears (since ++ byte ∷ []) heard r) (sym reader) (hears since behind);
  text = done.0;
  done = subst (λ (s : SessionValue). IsDone heard s done.0 to on) same done.1;
  wrote = done.2;
}
heard_is (Err fault) byte old mid new from between to before after heard hears reader same done = tt

pub then_same : {old middle new : ShownBoard} → SameBoard old middle → SameBoard middle new → SameBoard old new
then_same first then = record {
  program = then.program ∙ first.program;
  limits = then.limits ∙ first.limits;
  limit = then.limit ∙ first.limit;
}

-- a board is of its own program and limits
pub same_board : (board : ShownBoard) → SameBoard board board
same_board board = record { program = refl; limits = refl; limit = refl }
