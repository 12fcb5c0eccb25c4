use Rattle.std.proofs.Common.{◌≡◌, ◌<◌, [], ◌∷◌, ◌++◌, false, length, ℕ, Some, ◌-◌, ◌/◌, ◌%◌, List, arith, ◌∙◌}
use Rattle.std.specs.Prelude.{slice_get}
use Rattle.std.proofs.lemmas.Nat.{mod_below}
use Rattle.label.specs.Labels.{on, others}
use Rattle.label.specs.declared.space.Space.{Space}
use Rattle.label.specs.Space.{IsSpace, labels_of}
use Rattle.label.proofs.Counts.{one-stands, parent-within, place-within, rejoined, general-fits}
use Rattle.label.proofs.ranking.+label_at.Goals as goal

pub returns-then-size-eq1-clause-stands : goal.returns-then-size-eq1-clause-stands
returns-then-size-eq1-clause-stands t c = rw c.of.ensures (one-stands c.args.space c.requires.space c.args.size c.args.rank c.if-size-eq1.true c.requires.within)

pub nonzero_div-rank : goal.nonzero_div-rank
nonzero_div-rank t c = rw (c.from-width.ensures, c.saturating_sub.ensures) (parent-within c.args.space c.requires.space c.args.size c.args.rank (omega arith) c.requires.within).0

pub nonzero_rem-rank : goal.nonzero_rem-rank
nonzero_rem-rank t c = rw (c.from-width.ensures, c.saturating_sub.ensures) (parent-within c.args.space c.requires.space c.args.size c.args.rank (omega arith) c.requires.within).0

pub label_at-parent-requires : goal.label_at-parent-requires
label_at-parent-requires t c =
    (let h = c.decreases in omega arith, (c.requires.space, (omega arith, (omega arith, rw (c.from-width.ensures, c.saturating_sub.ensures) (parent-within c.args.space c.requires.space c.args.size c.args.rank (omega arith) c.requires.within).1))))

-- Proves the result from the shorter label and the index, with the width as a variable.
placed : (s : Space) → IsSpace s → (size r width : ℕ) (w v : List ℕ) → 1 < size → 0 < width → width ≡ s.generals - size → slice_get (labels_of s (size - 1)) (r / width) ≡ Some w → v ≡ w → r % width < length (others s.generals (s.general ∷ v))
placed s i size r width w v l some e stands same =
    rw (same, e) (place-within s i size (r / (s.generals - size)) (r % (s.generals - size)) w l (rw e at stands) (rw e at (mod_below r width some)))

joined : (s : Space) → IsSpace s → (size r width j : ℕ) (w v : List ℕ) → 1 < size → 0 < width → width ≡ s.generals - size → slice_get (labels_of s (size - 1)) (r / width) ≡ Some w → v ≡ w → slice_get (others s.generals (s.general ∷ v)) (r % width) ≡ Some j → slice_get (labels_of s size) r ≡ Some (w ++ j ∷ [])
joined s i size r width j w v l some e stands same last =
    rejoined s i size r j w l (rw e at some) (rw e at stands) (rw (same, e) at last)

pub general_at-last-requires : goal.general_at-last-requires
general_at-last-requires t c = record { within = placed c.args.space c.requires.space c.args.size c.args.rank c.from-width.result c.label_at-parent.result c.generals.result.now (omega arith) (nonzero_rem-rank t c) (c.from-width.ensures ∙ c.saturating_sub.ensures) c.label_at-parent.ensures.stands c.generals.ensures.value }

fits : (s : Space) → IsSpace s → (w v : List ℕ) (t j : ℕ) → v ≡ w → slice_get (others s.generals (s.general ∷ v)) t ≡ Some j → (j < 13) × (on w j ≡ false)
fits s i w v t j same e =
    let at = general-fits s.generals s.general w t j (rw same at e) in
    (let a = at.0 in let b = i.generals in omega arith, at.1)

pub with-requires-clause-below : goal.with-requires-clause-below
with-requires-clause-below t c = (fits c.args.space c.requires.space c.label_at-parent.result c.generals.result.now (c.args.rank % c.from-width.result) c.general_at-last.result c.generals.ensures.value c.general_at-last.ensures).0

pub with-requires-clause-fresh : goal.with-requires-clause-fresh
with-requires-clause-fresh t c = (fits c.args.space c.requires.space c.label_at-parent.result c.generals.result.now (c.args.rank % c.from-width.result) c.general_at-last.result c.generals.ensures.value c.general_at-last.ensures).1

pub returns-clause-stands : goal.returns-clause-stands
returns-clause-stands t c =
    rw c.with.ensures (joined c.args.space c.requires.space c.args.size c.args.rank c.from-width.result c.general_at-last.result c.label_at-parent.result c.generals.result.now (omega arith) (rw (c.from-width.ensures, c.saturating_sub.ensures) (parent-within c.args.space c.requires.space c.args.size c.args.rank (omega arith) c.requires.within).0) (c.from-width.ensures ∙ c.saturating_sub.ensures) c.label_at-parent.ensures.stands c.generals.ensures.value c.general_at-last.ensures)
