-- One more general is considered.
use Rattle.std.proofs.Common.{◌∷◌, ◌++◌, [], List, ℕ, length, length-append, sym, ap, ◌∙◌, arith}
use Rattle.trace.proofs.ChainLemmas.{named_else, named_then}
use Rattle.trace.proofs.receivers.named.Goals as goal
use Rattle.trace.proofs.receivers.named.Goals.{then-has, else-has}

pub loop-general-preserved : goal.loop-general-preserved
loop-general-preserved c =
    let bits = c.args.bits in
    let g : ℕ = c.loop-general.general in
    let before : List ℕ = c.loop-general.generals.items in
    elim c.if-has.branch [
      | then-has w ↦ record {
        named = rw w.generals-is (w.push.ensures.items ∙ (ap (λ (l : List ℕ). l ++ g ∷ []) c.loop-general.invariant.named ∙ sym (named_then bits g (sym c.has.ensures ∙ w.if-has.true))));
        few = rw w.generals-is (let e = ap length w.push.ensures.items in let long = length-append before (g ∷ []) in let few = c.loop-general.invariant.few in omega arith);
      }
      | else-has w ↦ record {
        named = rw w.generals-is (c.loop-general.invariant.named ∙ sym (named_else bits g (sym c.has.ensures ∙ w.if-has.false)));
        few = rw w.generals-is (let few = c.loop-general.invariant.few in omega arith);
      }
    ]
