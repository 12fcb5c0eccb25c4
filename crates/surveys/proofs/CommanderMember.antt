-- The JSON member of a head that names the commander.
use Rattle.std.proofs.Common.{ℕ, ◌≡◌, ◌≢◌, Bool, false, cond, List, [], ◌++◌, ap, sym, ◌∙◌, arith, append_assoc, codes}
use Rattle.std.specs.Prelude.{decimal, ◌==◌}
use Rattle.std.proofs.lemmas.Bool.Decides.{nat_tests}
use Rattle.surveys.specs.Heads.{commander_text}

not_zero : (c : ℕ) → c ≢ 0 → c == 0 ≡ false
not_zero c other = grind (arith, nat_tests)

pub commander_written : (c n : ℕ) (old new : List ℕ) → c ≢ 0 → n ≡ c → new ≡ (old ++ codes ",\"commander\":") ++ decimal n → new ≡ old ++ commander_text c
commander_written c n old new other is h =
    let text : commander_text c ≡ codes ",\"commander\":" ++ decimal c = ap (λ (b : Bool). cond b [] (codes ",\"commander\":" ++ decimal c)) (not_zero c other) in
    h ∙ (append_assoc old (codes ",\"commander\":") (decimal n) ∙ (ap (λ (k : ℕ). old ++ (codes ",\"commander\":" ++ decimal k)) is ∙ ap (λ (l : List ℕ). old ++ l) (sym text)))
