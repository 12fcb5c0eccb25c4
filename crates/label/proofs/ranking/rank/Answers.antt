use Rattle.std.proofs.Common.{◌≡◌, ℕ, List, length, sym, ap, ◌∙◌, refl, Bool, true, false}
use Rattle.label.specs.Labels.{on, is_distinct}
use Rattle.label.specs.Oral.{IsLabel}
use Rattle.label.specs.declared.space.Space.{Space}
use Rattle.std.proofs.lemmas.Option.{slice_get_within}
use Rattle.label.specs.Space.{is_label_of, labels_of}
use Rattle.label.proofs.Absent.{lieutenant-has, lieutenant-lacks}
use Rattle.label.proofs.Counts.{tested, refused}
use Rattle.label.proofs.ranking.rank.Goals as goal

pub returns-then-not-is_label-clause-err : goal.returns-then-not-is_label-clause-err
returns-then-not-is_label-clause-err c = (refl, λ r e. refused c.args.space (lieutenant-has c.args.space (length c.args.label.now) r c.requires (slice_get_within (labels_of c.args.space (length c.args.label.now)) r c.args.label.now e)).0 (length c.args.label.now) r c.args.label.now c.generals-generals.ensures.kind.filled (sym (ap (is_label_of c.args.space) c.generals-generals.ensures.value) ∙ (sym c.is_label.ensures ∙ c.if-not-is_label.true)) e)

both : (s : Space) (w v : List ℕ) (b : Bool) → v ≡ w → is_distinct w ≡ true → b ≡ is_label_of s v → b ≡ true → IsLabel s.generals s.commander v × (on v s.general ≡ false)
both s w v b e d t h = tested s v (rw e d) (sym t ∙ h)

pub rank_of-requires-clause-space : goal.rank_of-requires-clause-space
rank_of-requires-clause-space c = lieutenant-lacks c.args.space c.generals-generals.result.now c.requires (sym c.is_label.ensures ∙ c.if-not-is_label.false)

pub rank_of-requires-clause-label : goal.rank_of-requires-clause-label
rank_of-requires-clause-label c = (both c.args.space c.args.label.now c.generals-generals.result.now c.is_label.result c.generals-generals.ensures.value c.generals-generals.ensures.kind.distinct c.is_label.ensures c.if-not-is_label.false).0
