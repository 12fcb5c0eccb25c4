-- The bytes that agree are accepted.
use Rattle.std.proofs.Common.{rules, ◌≡◌, ◌+◌, ◌-◌, ℕ, List, ◌∷◌, ◌++◌, length, take, drop, None, Option, sym, ap, ◌∙◌, append_assoc, length-drop, arith}
use Rattle.std.proofs.lemmas.List.{append-nil, take_all}
use Rattle.std.specs.Prelude.{option_to_list}
use Rattle.mem.proofs.Parts.{take-split}
use Rattle.trace.specs.Compared.{taken}
use Rattle.trace.proofs.comparison.ComparingSinkSink.put.Goals as goal

taken_more : (text piece : List ℕ) (same n : ℕ) (other : Option ℕ) → other ≡ None → take n (drop same text) ≡ take n piece → taken text (same + n) other ≡ taken text same other ++ take n piece
taken_more text piece same n other none alike =
    let more : take (same + n) text ≡ take same text ++ take n piece = take-split same n text ∙ ap (λ (l : List ℕ). take same text ++ l) alike in
    let whole : take (same + n) text ++ option_to_list other ≡ take (same + n) text = ap (λ (o : Option ℕ). take (same + n) text ++ option_to_list o) none ∙ append-nil (take (same + n) text) in
    let front : take same text ++ option_to_list other ≡ take same text = ap (λ (o : Option ℕ). take same text ++ option_to_list o) none ∙ append-nil (take same text) in
    whole ∙ (more ∙ ap (λ (l : List ℕ). l ++ take n piece) (sym front))

pub returns-clause-taken : goal.returns-clause-taken
returns-clause-taken c =
    let text = c.args.self.now.text.now in
    let none : c.args.self.now.other ≡ None = search rules in
    let rest : take (length text - c.args.self.now.same) (drop c.args.self.now.same text) ≡ drop c.args.self.now.same text = take_all (length text - c.args.self.now.same) (drop c.args.self.now.same text) (omega (arith, length-drop c.args.self.now.same text)) in
    let alike : take c.alike-alike.result (drop c.args.self.now.same text) ≡ take c.alike-alike.result c.args.piece.now = ap (λ (l : List ℕ). take c.alike-alike.result l) (sym rest) ∙ c.alike-alike.ensures.alike in
    let more = taken_more text c.args.piece.now c.args.self.now.same c.alike-alike.result c.args.self.now.other none alike in (
      c.alike-alike.ensures.piece,
      ap (λ (l : List ℕ). length text ∷ l) (ap (λ (l : List ℕ). text ++ l) more ∙ sym (append_assoc text (taken text c.args.self.now.same c.args.self.now.other) (take c.alike-alike.result c.args.piece.now))),
    )
