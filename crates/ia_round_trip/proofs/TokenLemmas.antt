-- What is printed has the tokens that it is made of.
use Rattle.std.proofs.Common.{◌≡◌, ℕ, suc, ◌+◌, Bool, true, false, cond, List, [], ◌∷◌, ◌++◌, Option, Some, None, refl}
use Rattle.std.proofs.Common.{sym, ◌∙◌, ap, inl, inr, length, take, arith, append_assoc}
use Rattle.std.specs.Prelude.{◌==◌, codes}
use Rattle.std.proofs.lemmas.Bool.{cases_Bool}
use Rattle.std.proofs.lemmas.List.{take_at, drop_at}
use Rattle.std.specs.List.{prefix_len}
use Rattle.ia_lex.specs.Chars.{is_blank, is_quote, is_mark, is_digit, is_name}
use Rattle.ia_lex.specs.Numbers.{number_of}
use Rattle.ia_lex.specs.Tokens.{Lexeme, Word, Number, Mark, End, Bad, Blank, One, front, word_front, number_front}
use Rattle.ia_lex.specs.Tokens.{quote_front, tokens_from, with_front}
use Rattle.ia_lex.proofs.Skips.{read_one, read_blank}

-- ---- a word in front

abbrev pub all_by : (ℕ → Bool) → List ℕ → Bool
all_by p [] = true
all_by p (b ∷ w) = cond (p b) (all_by p w) false

-- what follows does not go on
abbrev pub Stops : (ℕ → Bool) → List ℕ → Type 0
Stops p [] = Unit {0}
Stops p (b ∷ bs) = p b ≡ false

prefix_all : (p : ℕ → Bool) (w rest : List ℕ) → all_by p w ≡ true → Stops p rest → prefix_len p (w ++ rest) ≡ length w
prefix_all p [] [] e h = refl
prefix_all p [] (b ∷ bs) e h = ap (λ v. cond v (1 + prefix_len p bs) 0) h
prefix_all p (b ∷ w) rest e h = elim (cases_Bool (p b)) [
  | inl t ↦
      let f : all_by p w ≡ true = sym (ap (λ v. cond v (all_by p w) false) t) ∙ e in
      let g = prefix_all p w rest f h in
      let k : 1 + prefix_len p (w ++ rest) ≡ suc (length w) = omega (arith, g) in
      ap (λ v. cond v (1 + prefix_len p (w ++ rest)) 0) t ∙ k
  | inr t ↦ let f : false ≡ true = sym (ap (λ v. cond v (all_by p w) false) t) ∙ e in cc
]

pick : {X : Type 0} (a b c : Bool) (x y z w : X) → a ≡ false → b ≡ false → c ≡ true
    → cond a x (cond b y (cond c z w)) ≡ z
pick a b c x y z w e f g =
    ap (λ v. cond v x (cond b y (cond c z w))) e ∙ ap (λ v. cond v y (cond c z w)) f ∙ ap (λ v. cond v z w) g

-- how a byte in front of a name, or of a number, is told
pub record IsStart (digit : Bool) (b : ℕ) : Type 0 where
  pub blank : is_blank b ≡ false
  pub comment : (b == 59) ≡ false
  pub name : is_name b ≡ true
  pub kind : is_digit b ≡ digit

front_word : (b : ℕ) (w rest : List ℕ) → IsStart false b → all_by is_name (b ∷ w) ≡ true → Stops is_name rest
    → front ((b ∷ w) ++ rest) ≡ One (Word (b ∷ w)) (length (b ∷ w))
unfolding front word_front
front_word b w rest s e h =
    let bytes : List ℕ = (b ∷ w) ++ rest in
    let n : prefix_len is_name bytes ≡ length (b ∷ w) = prefix_all is_name (b ∷ w) rest e h in
    pick (is_blank b) (b == 59) (is_name b) Blank End _ _ s.blank s.comment s.name
    ∙ ap (λ v. cond v (number_front (number_of (take (prefix_len is_name bytes) bytes)) (prefix_len is_name bytes))
    (One (Word (take (prefix_len is_name bytes) bytes)) (prefix_len is_name bytes))) s.kind
    ∙ ap (λ m. One (Word (take m bytes)) m) n
    ∙ ap (λ v. One (Word v) (length (b ∷ w))) (take_at (b ∷ w) rest (length (b ∷ w)) refl)

front_number : (b : ℕ) (w rest : List ℕ) (v : Option ℕ) → IsStart true b → all_by is_name (b ∷ w) ≡ true
    → Stops is_name rest → number_of (b ∷ w) ≡ Some v → front ((b ∷ w) ++ rest) ≡ One (Number v) (length (b ∷ w))
unfolding front word_front
front_number b w rest v s e h k =
    let bytes : List ℕ = (b ∷ w) ++ rest in
    let n : prefix_len is_name bytes ≡ length (b ∷ w) = prefix_all is_name (b ∷ w) rest e h in
    pick (is_blank b) (b == 59) (is_name b) Blank End _ _ s.blank s.comment s.name
    ∙ ap (λ v. cond v (number_front (number_of (take (prefix_len is_name bytes) bytes)) (prefix_len is_name bytes))
    (One (Word (take (prefix_len is_name bytes) bytes)) (prefix_len is_name bytes))) s.kind
    ∙ ap (λ m. number_front (number_of (take m bytes)) m) n
    ∙ ap (λ u. number_front (number_of u) (length (b ∷ w))) (take_at (b ∷ w) rest (length (b ∷ w)) refl)
    ∙ ap (λ u. number_front u (length (b ∷ w))) k

-- ---- texts and their tokens

-- before whatever does not go on as a name
abbrev pub Open : List ℕ → List Lexeme → Type 0
Open text ts = (rest : List ℕ) → Stops is_name rest → tokens_from 0 (text ++ rest) ≡ with_front ts (tokens_from 0 rest)

-- before whatever follows
abbrev pub Shut : List ℕ → List Lexeme → Type 0
Shut text ts = (rest : List ℕ) → tokens_from 0 (text ++ rest) ≡ with_front ts (tokens_from 0 rest)

pub open_word : (b : ℕ) (w : List ℕ) → IsStart false b → all_by is_name (b ∷ w) ≡ true
    → Open (b ∷ w) (Word (b ∷ w) ∷ [])
open_word b w s e rest h =
    read_one (Word (b ∷ w)) (length (b ∷ w)) ((b ∷ w) ++ rest) (front_word b w rest s e h) (omega arith)
    ∙ ap (λ r. with_front (Word (b ∷ w) ∷ []) (tokens_from 0 r)) (drop_at (b ∷ w) rest (length (b ∷ w)) refl)

pub open_number : (b : ℕ) (w : List ℕ) (v : Option ℕ) → IsStart true b → all_by is_name (b ∷ w) ≡ true
    → number_of (b ∷ w) ≡ Some v → Open (b ∷ w) (Number v ∷ [])
open_number b w v s e k rest h =
    read_one (Number v) (length (b ∷ w)) ((b ∷ w) ++ rest) (front_number b w rest v s e h k) (omega arith)
    ∙ ap (λ r. with_front (Number v ∷ []) (tokens_from 0 r)) (drop_at (b ∷ w) rest (length (b ∷ w)) refl)

with_front_twice : (a b : List Lexeme) (r : Option (List Lexeme))
    → with_front a (with_front b r) ≡ with_front (a ++ b) r
with_front_twice a b None = refl
with_front_twice a b (Some ts) = ap Some (sym (append_assoc a b ts))

pub with_front_none : (r : Option (List Lexeme)) → with_front [] r ≡ r
with_front_none None = refl
with_front_none (Some ts) = refl

pub shut_open : (a b : List ℕ) (ts us : List Lexeme) → Shut a ts → Open b us → Open (a ++ b) (ts ++ us)
shut_open a b ts us s o rest h =
    ap (tokens_from 0) (append_assoc a b rest) ∙ s (b ++ rest) ∙ ap (with_front ts) (o rest h)
    ∙ with_front_twice ts us (tokens_from 0 rest)

pub shut_shut : (a b : List ℕ) (ts us : List Lexeme) → Shut a ts → Shut b us → Shut (a ++ b) (ts ++ us)
shut_shut a b ts us s o rest =
    ap (tokens_from 0) (append_assoc a b rest) ∙ s (b ++ rest) ∙ ap (with_front ts) (o rest)
    ∙ with_front_twice ts us (tokens_from 0 rest)

-- the second begins with no name's character
pub open_open : (a b : List ℕ) (ts us : List Lexeme)
    → ((rest : List ℕ) → Stops is_name rest → Stops is_name (b ++ rest)) → Open a ts → Open b us
    → Open (a ++ b) (ts ++ us)
open_open a b ts us k s o rest h =
    ap (tokens_from 0) (append_assoc a b rest) ∙ s (b ++ rest) (k rest h) ∙ ap (with_front ts) (o rest h)
    ∙ with_front_twice ts us (tokens_from 0 rest)

pub open_shut : (a b : List ℕ) (ts us : List Lexeme) → ((rest : List ℕ) → Stops is_name (b ++ rest)) → Open a ts
    → Shut b us → Shut (a ++ b) (ts ++ us)
open_shut a b ts us k s o rest =
    ap (tokens_from 0) (append_assoc a b rest) ∙ s (b ++ rest) (k rest) ∙ ap (with_front ts) (o rest)
    ∙ with_front_twice ts us (tokens_from 0 rest)

blank_front : (rest : List ℕ) → front (32 ∷ rest) ≡ Blank
unfolding front
blank_front rest = refl

pub shut_blank : Shut (codes " ") []
shut_blank rest = read_blank (32 ∷ rest) (blank_front rest) ∙ sym (with_front_none (tokens_from 0 rest))

mark_front : (b : ℕ) (rest : List ℕ) → is_blank b ≡ false → (b == 59) ≡ false → is_name b ≡ false → is_quote b ≡ false
    → is_mark b ≡ true → front (b ∷ rest) ≡ One (Mark b) 1
unfolding front
mark_front b rest e f g h k =
    ap (λ v. cond v Blank (cond (b == 59) End (cond (is_name b) (word_front (b ∷ rest))
    (cond (is_quote b) (quote_front b rest) (cond (is_mark b) (One (Mark b) 1) Bad))))) e
    ∙ ap (λ v. cond v End (cond (is_name b) (word_front (b ∷ rest))
    (cond (is_quote b) (quote_front b rest) (cond (is_mark b) (One (Mark b) 1) Bad)))) f
    ∙ ap (λ v. cond v (word_front (b ∷ rest))
    (cond (is_quote b) (quote_front b rest) (cond (is_mark b) (One (Mark b) 1) Bad))) g
    ∙ ap (λ v. cond v (quote_front b rest) (cond (is_mark b) (One (Mark b) 1) Bad)) h
    ∙ ap (λ v. cond v (One (Mark b) 1) Bad) k

shut_mark : (b : ℕ) → is_blank b ≡ false → (b == 59) ≡ false → is_name b ≡ false → is_quote b ≡ false → is_mark b ≡ true
    → Shut (b ∷ []) (Mark b ∷ [])
shut_mark b e f g h k rest = read_one (Mark b) 1 (b ∷ rest) (mark_front b rest e f g h k) (omega arith)

pub shut_left : Shut (codes "[") (Mark 91 ∷ [])
shut_left = shut_mark 91 refl refl refl refl refl

pub shut_right : Shut (codes "]") (Mark 93 ∷ [])
shut_right = shut_mark 93 refl refl refl refl refl

pub shut_plus : Shut (codes "+") (Mark 43 ∷ [])
shut_plus = shut_mark 43 refl refl refl refl refl

pub shut_times : Shut (codes "*") (Mark 42 ∷ [])
shut_times = shut_mark 42 refl refl refl refl refl

pub shut_comma : Shut (codes ", ") (Mark 44 ∷ [])
shut_comma rest = shut_mark 44 refl refl refl refl refl (32 ∷ rest)
    ∙ ap (with_front (Mark 44 ∷ [])) (shut_blank rest ∙ with_front_none (tokens_from 0 rest))
