-- Instructions in the words of their lines.
use Rattle.std.proofs.Common.{◌≡◌, ◌≢◌, ◌∙◌, ℕ, zero, suc, ◌<◌, List, [], ◌∷◌, ◌++◌, true, IsUtf8, ap, append_assoc, append-nil, arith, lit<, refl, subst, sym}
use Rattle.std.specs.Prelude.{Option, None, Some, slice_index, nat_le, nat_lt}
use Rattle.std.specs.Option.{ok_or}
use Rattle.std.specs.List.{flat_map, list_all}
use Rattle.std.proofs.lemmas.Bool.{and_parts}
use Rattle.std.proofs.lemmas.Str.{IsUtf8-from_ascii}
use Rattle.std.proofs.lemmas.Grind.{common_steps}
use Rattle.asm.specs.declared.fault.AsmFault.TheVariants as faults
use Rattle.asm.specs.declared.fault.LineError.{LineError}
use Rattle.asm.specs.declared.fault.LineError.TheVariants as failures
use Rattle.asm.specs.Line.{Outline, outline_of}
use Rattle.asm.specs.Places.{is_visible, line_statements, outline_statements}
use Rattle.asm.specs.Views.{Fails}

visible_low : (c : ℕ) → is_visible c ≡ true → c < 128
visible_low c h =
    let below : nat_lt c 127 ≡ true = (and_parts (nat_le 32 c) (nat_lt c 127) h).1 in
    grind (arith, common_steps)

visible_at : (word : List ℕ) → list_all is_visible word ≡ true → (i : ℕ) → slice_index word i < 128
visible_at [] h i = lit< tt
visible_at (c ∷ word) h zero = visible_low c (and_parts (is_visible c) (list_all is_visible word) h).0
visible_at (c ∷ word) h (suc i) = visible_at word (and_parts (is_visible c) (list_all is_visible word) h).1 i

pub visible_utf8 : (word : List ℕ) → list_all is_visible word ≡ true → IsUtf8 word
visible_utf8 word h = IsUtf8-from_ascii word (visible_at word h)

-- A line with a fault adds none.
of_fault : (error : LineError) (outline : Option Outline) → Fails error (ok_or outline faults.Line) → error ≢ failures.Memory →
    outline_statements outline ≡ []
of_fault (failures.Fault f) None given apart = refl
of_fault (failures.Fault f) (Some o) given apart = absurd cc
of_fault failures.Memory outline given apart = absurd (apart refl)

pub nothing_added : (old : List (List ℕ)) (line : List ℕ) (error : LineError) → Fails error (ok_or (outline_of line) faults.Line) →
    error ≢ failures.Memory → old ≡ old ++ line_statements line
nothing_added old line error given apart =
    sym (append-nil old) ∙ ap (λ (s : List (List ℕ)). old ++ s) (sym (of_fault error (outline_of line) given apart))

-- One more line.
pub statements_next : (old new all : List (List ℕ)) (line : List ℕ) (lines more : List (List ℕ)) → lines ≡ line ∷ more →
    old ++ flat_map line_statements lines ≡ all → new ≡ old ++ line_statements line → new ++ flat_map line_statements more ≡ all
statements_next old new all line lines more e so_far next =
    let front : old ++ flat_map line_statements (line ∷ more) ≡ all = subst (λ (ls : List (List ℕ)). old ++ flat_map line_statements ls ≡ all) e so_far in
    ap (λ (s : List (List ℕ)). s ++ flat_map line_statements more) next ∙ (append_assoc old (line_statements line) (flat_map line_statements more) ∙ front)

-- No line remains.
pub statements_all : (done all : List (List ℕ)) (lines : List (List ℕ)) → lines ≡ [] → done ++ flat_map line_statements lines ≡ all → done ≡ all
statements_all done all lines e so_far =
    let whole : done ++ [] ≡ all = subst (λ (ls : List (List ℕ)). done ++ flat_map line_statements ls ≡ all) e so_far in
    sym (append-nil done) ∙ whole
