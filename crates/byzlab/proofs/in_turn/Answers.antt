use Rattle.std.proofs.Common.{◌∙◌, arith, inr, sym}
use Rattle.byzlab.proofs.UnaskedLemmas.{asked_nothing, end_before}
use Rattle.byzlab.proofs.in_turn.Goals as goal

pub returns-in-Err-clause-done : goal.returns-in-Err-clause-done
returns-in-Err-clause-done g c =
    let status = c.in_ok-told-in-Err.ensures.status in
    let nothing = rw c.as_slice.ensures.value at c.in-Err.ensures.refused in
    end_before c.args.requests.now c.words-item.result c.loop-words.words-index _ c.with_unasked.result _ c.in-Err.error (omega arith) (sym c.words-item.is)
    (c.with_unasked.ensures.count ∙ c.loop-words.invariant.count) c.with_unasked.ensures.worst
    (c.with_unasked.ensures.unwritten ∙ c.loop-words.invariant.written) c.with_unasked.ensures.unasked c.in_ok-told-in-Err.ensures.error status
    (record {
      nothing = asked_nothing c.in-Err.error _ _ status nothing;
      kind = rw c.as_slice.ensures.value at c.in-Err.ensures.kind;
      misused = rw c.as_slice.ensures.value at c.in-Err.ensures.misused;
    })

pub returns-in-Err-clause-all : goal.returns-in-Err-clause-all
returns-in-Err-clause-all g c =
    let nothing = rw c.as_slice.ensures.value at c.in-Err.ensures.refused in
    inr (inr (c.loop-words.words-index, c.words-item.result, omega arith, sym c.words-item.is, asked_nothing c.in-Err.error _ _ c.in_ok-told-in-Err.ensures.status nothing))

pub returns-in-Err-clause-unasked : goal.returns-in-Err-clause-unasked
returns-in-Err-clause-unasked g c =
    let nothing = rw c.as_slice.ensures.value at c.in-Err.ensures.refused in
    λ two. (c.loop-words.words-index, c.words-item.result, omega arith, sym c.words-item.is, asked_nothing c.in-Err.error _ _ c.in_ok-told-in-Err.ensures.status nothing)
