-- What the passes make is a placement.
use Rattle.std.proofs.Common.{◌≡◌, ℕ, ◌+◌, ◌-◌, List, [], refl, sym, ◌∙◌, ap, subst, length, map, arith}
use Rattle.std.specs.Prelude.{flat_map}
use Rattle.ia_item.specs.Fits.{AllFit}
use Rattle.ia_item.specs.declared.item.Entry.{Entry}
use Rattle.ia_item.specs.declared.item.Section.TheVariants.{Text as InText, Data as InData}
use Rattle.ia_layout.specs.Placement.{LayoutState, all_places, base_of, code_and_data, gap, start, symbols, tail_base}
use Rattle.ia_layout.specs.Placement.{text_end, values}
use Rattle.ia_layout.specs.Placements.{AreConsecutive, IsNextMultiple, IsPlacement, bytes_in}
use Rattle.ia_layout.proofs.Placing.{all_given, next_multiple, placed, same_bytes, same_entries, tail_from, text_from}
use Rattle.ia_asm.specs.Assemblies.{code_of, tail_of}
use Rattle.ia_asm.proofs.Ends.{code_fits}

pub is_placement : (es : List Entry) (base code_len : ℕ) (image : List ℕ) → AllFit es → base ≡ base_of es
    → image ≡ code_and_data (code_of es) (gap 64 (text_end es)) (tail_of es) → code_len ≡ length (code_of es) →
    IsPlacement es base code_len image (symbols (all_places es))
is_placement es base code_len image fits at whole long =
    let env = values (all_places es) in
    let tail = tail_base (text_end es) in
    let s : LayoutState = start (base_of es) tail in
    let code = same_bytes InText env (all_places es) in
    let rest = same_bytes InData env (all_places es) in
    let end : base + code_len ≡ text_end es = omega (arith, at, long, code_fits es) in
    let zeros : gap 64 (text_end es) ≡ tail - (base + code_len) = omega (arith, end) in
    record {
      items = map (placed env) (all_places es);
      tail = tail;
      entries = same_entries env s es;
      text_items =
          subst (λ (n : ℕ). AreConsecutive InText n (map (placed env) (all_places es))) (sym at) (text_from env s es);
      data_items = tail_from env s es;
      code = long ∙ ap length (sym code);
      tail_begins =
          subst (λ (n : ℕ). IsNextMultiple 64 n tail) (sym end) (next_multiple 64 (text_end es) (omega arith));
      bytes = whole
          ∙ ap (λ l. code_and_data l (gap 64 (text_end es)) (tail_of es)) (sym code)
          ∙ ap (λ n. code_and_data (flat_map (bytes_in InText) (map (placed env) (all_places es))) n (tail_of es)) zeros
          ∙ ap (λ l. code_and_data (flat_map (bytes_in InText) (map (placed env) (all_places es)))
          (tail - (base + code_len)) l) (sym rest);
      given = all_given env [] s es fits (λ name. refl);
    }
