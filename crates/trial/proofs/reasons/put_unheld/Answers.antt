use Rattle.std.proofs.Common.{◌≡◌, ◌∙◌, ◌-◌, List, ℕ, ◌++◌, ap, sym, append_assoc}
use Rattle.std.specs.Prelude.{codes, decimal}
use Rattle.std.specs.String.{string_bytes}
use Rattle.std.proofs.lemmas.Bool.{ne_eqb}
use Rattle.std.proofs.lemmas.Result.{on_ok_weaker}
use Rattle.trial.proofs.RowReasons.{unheld_some}
use Rattle.trial.proofs.reasons.put_unheld.Goals as goal

pub returns : goal.returns
returns c = on_ok_weaker c.write.result
    (λ e. let told : string_bytes c.write.new.self ≡ string_bytes c.args.out.now ++ (codes "chain " ++ decimal c.args.index ++ codes " is past the last, " ++ decimal (c.args.count - 1)) = simp append_assoc e in
    told ∙ ap (λ (l : List ℕ). string_bytes c.args.out.now ++ l) (sym (unheld_some c.args.index c.args.count (ne_eqb c.args.count 0 c.if-count-eq0.false))))
    c.write.ensures.bytes
