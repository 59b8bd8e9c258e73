-- Why there is no program, or not what is asked for of it.
use Rattle.std.proofs.Common.{◌≡◌, ◌≢◌, ◌⊎◌, ◌∙◌, ◌∷◌, ℕ, suc, List, [], Some, length, ap, inl, inr, refl, sym, subst}
use Rattle.std.proofs.Common.{arith, Bor, codes, false}
use Rattle.std.specs.Option.{option_copied}
use Rattle.std.specs.List.{AllZip}
use Rattle.std.specs.Prelude.{Contains}
use Rattle.elide_args.specs.declared.subcommand.MachineOptions.{MachineOptions}
use Rattle.elide_program.specs.Entries.{AreEntries, IsEntry, entry_words, is_entry_list}
use Rattle.elide_program.specs.Forms.{IsNoDump, is_sum_form}
use Rattle.elide_program.specs.Refusals.{HasNoPart, HasNoStart, IsMisread, IsWant, NamesOption, bad_dump, bad_entry}
use Rattle.elide_program.specs.Refusals.{bad_show, no_dump, no_memory, no_room}
use Rattle.elide_program.specs.Refusals.{no_show, other_count}
use Rattle.elide_program.specs.Settings.{number_or}
use Rattle.elide_program.specs.declared.fault.ProgramRefusal.{ProgramRefusal}
use Rattle.elide_program.specs.declared.file.ProgramFile.{ProgramFile}

-- parts of memory alone, and values alone
pub of_dumps : (file : ProgramFile) (dumps shows : List (Bor (List ℕ))) (why : ProgramRefusal)
    → HasNoPart file dumps [] why → HasNoPart file dumps shows why
of_dumps file dumps shows why (no_dump text among none named) = no_dump text among none named
of_dumps file dumps shows why (no_show text among none named) = absurd (omega (arith, among.1))
of_dumps file dumps shows why (no_room want) = no_room want

pub of_shows : (file : ProgramFile) (dumps shows : List (Bor (List ℕ))) (why : ProgramRefusal)
    → HasNoPart file [] shows why → HasNoPart file dumps shows why
of_shows file dumps shows why (no_dump text among none named) = absurd (omega (arith, among.1))
of_shows file dumps shows why (no_show text among none named) = no_show text among none named
of_shows file dumps shows why (no_room want) = no_room want

-- the list of the entries, and one of the texts of an option
pub of_entries : (options : MachineOptions) (cores : ℕ) (why : ProgramRefusal)
    → number_or 1 (option_copied options.cores) ≡ Some cores →
    (list : List ℕ) × (option_copied options.entry ≡ Some list) × (is_entry_list list cores ≡ false)
    × NamesOption (codes "--entry") why → IsMisread options why
of_entries options cores why said h = bad_entry h.0 cores h.1 said h.2 h.3

pub of_forms : (options : MachineOptions) (texts : List (Bor (List ℕ))) (why : ProgramRefusal)
    → texts ≡ options.dumps.items →
    (text : Bor (List ℕ)) × Contains texts text × IsNoDump text.now × NamesOption (codes "--dump") why
    → IsMisread options why
of_forms options texts why same h = bad_dump h.0 (subst (λ (l : List (Bor (List ℕ))). Contains l h.0) same h.1) h.2 h.3

pub of_sums : (options : MachineOptions) (texts : List (Bor (List ℕ))) (why : ProgramRefusal)
    → texts ≡ options.shows.items →
    (text : Bor (List ℕ)) × Contains texts text × (is_sum_form text.now ≡ false) × NamesOption (codes "--show") why
    → IsMisread options why
of_sums options texts why same h = bad_show h.0 (subst (λ (l : List (Bor (List ℕ))). Contains l h.0) same h.1) h.2 h.3

-- ---- the count of entries

zip_length : {A B : Type 0} (R : A → B → Type 0) (xs : List A) (ys : List B) → AllZip R xs ys → length xs ≡ length ys
zip_length R [] [] all = refl
zip_length R [] (w ∷ ys) all = absurd all
zip_length R (z ∷ xs) [] all = absurd all
zip_length R (z ∷ xs) (w ∷ ys) all = ap suc (zip_length R xs ys all.1)

-- as many addresses as words
pub no_count : (file : ProgramFile) (list : List ℕ) (cores : ℕ) (addresses : List ℕ) (why : ProgramRefusal)
    → AreEntries file list addresses →
    IsWant why ⊎ ((length addresses ≢ 1) × (length addresses ≢ cores) × NamesOption (codes "--entry") why)
    → HasNoStart file list cores why
no_count file list cores addresses why are (inl want) = no_memory want
no_count file list cores addresses why are (inr h) =
    let same =
    zip_length (λ (word : List ℕ) (address : ℕ). IsEntry file word (Some address)) (entry_words list) addresses are in
    other_count (λ e. h.0 (sym same ∙ e)) (λ e. h.1 (sym same ∙ e)) h.2
