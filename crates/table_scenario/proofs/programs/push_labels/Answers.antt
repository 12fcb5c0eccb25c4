use Rattle.std.proofs.Common.{◌≡◌, ◌++◌, ◌∷◌, [], ◌∙◌, arith, ap, sym, ℕ, List, length, length-append, Some, get_or, subst, ◌+◌}
use Rattle.std.specs.Prelude.{slice_get}
use Rattle.std.specs.List.{flat_map, range_with_len}
use Rattle.std.specs.String.{string_bytes}
use Rattle.std.proofs.lemmas.Option.{get_or_from_slice_get}
use Rattle.label.specs.Labels.{labels}
use Rattle.label.specs.Oral.{IsLabel}
use Rattle.book.specs.Table.{MessageTable}
use Rattle.book.proofs.Gathering.{range_text}
use Rattle.table_scenario.specs.Programs.{label_text}
use Rattle.table_scenario.proofs.Placing.{relayed}
use Rattle.table_scenario.proofs.programs.push_labels.Goals as goal

-- The label of a rank among those of the table's numbers.
here : (t : MessageTable) (n c g k r : ℕ) (w : List ℕ) → n ≡ t.generals → c ≡ t.commander → slice_get (labels n c g k) r ≡ Some w → slice_get (labels t.generals t.commander g k) r ≡ Some w
here t n c g k r w en ec at = sym (λ i. slice_get (labels (en i) (ec i) g k) r) ∙ at

pub with-requires-clause-fresh : goal.with-requires-clause-fresh
with-requires-clause-fresh g c =
    let t = g.H.Heard.seen c.args.table.now in
    let at = here t c.generals.result c.commander.result c.args.general c.args.size c.loop-rank.rank c.in-Ok.label c.generals.ensures.value c.commander.ensures.value c.in-Ok.ensures.ok in
    (relayed t.generals t.commander c.args.general c.args.size c.loop-rank.rank c.in-Ok.label c.generals.ensures.within.present c.requires.general c.requires.lieutenant at).1

pub with-requires-clause-room : goal.with-requires-clause-room
with-requires-clause-room g c =
    let t = g.H.Heard.seen c.args.table.now in
    let at = here t c.generals.result c.commander.result c.args.general c.args.size c.loop-rank.rank c.in-Ok.label c.generals.ensures.value c.commander.ensures.value c.in-Ok.ensures.ok in
    let long : length c.in-Ok.label ≡ c.args.size = (relayed t.generals t.commander c.args.general c.args.size c.loop-rank.rank c.in-Ok.label c.generals.ensures.within.present c.requires.general c.requires.lieutenant at).2 in
    let short = c.requires.short in
    let few = c.generals.ensures.within.rounds in
    omega arith

pub push_label-requires-clause-label : goal.push_label-requires-clause-label
push_label-requires-clause-label g c =
    let t = g.H.Heard.seen c.args.table.now in
    let at = here t c.generals.result c.commander.result c.args.general c.args.size c.loop-rank.rank c.in-Ok.label c.generals.ensures.value c.commander.ensures.value c.in-Ok.ensures.ok in
    subst (λ (w : List ℕ). IsLabel t.generals t.commander w) (sym c.with.ensures)
    (relayed t.generals t.commander c.args.general c.args.size c.loop-rank.rank c.in-Ok.label c.generals.ensures.within.present c.requires.general c.requires.lieutenant at).0

pub push_label-requires-clause-short : goal.push_label-requires-clause-short
push_label-requires-clause-short g c =
    let t = g.H.Heard.seen c.args.table.now in
    let at = here t c.generals.result c.commander.result c.args.general c.args.size c.loop-rank.rank c.in-Ok.label c.generals.ensures.value c.commander.ensures.value c.in-Ok.ensures.ok in
    let long : length c.in-Ok.label ≡ c.args.size = (relayed t.generals t.commander c.args.general c.args.size c.loop-rank.rank c.in-Ok.label c.generals.ensures.within.present c.requires.general c.requires.lieutenant at).2 in
    let all : length c.with.result ≡ length c.in-Ok.label + 1 = ap length c.with.ensures ∙ length-append c.in-Ok.label (c.args.general ∷ []) in
    let short = c.requires.short in
    omega arith

pub loop-rank-preserved : goal.loop-rank-preserved
loop-rank-preserved g c =
    let t = g.H.Heard.seen c.args.table.now in
    let old = string_bytes c.args.text.now in
    let there : List (List ℕ) = labels t.generals t.commander c.args.general c.args.size in
    let line : ℕ → List ℕ = λ rank. label_text t rank (get_or there rank [] ++ c.args.general ∷ []) in
    let at = here t c.generals.result c.commander.result c.args.general c.args.size c.loop-rank.rank c.in-Ok.label c.generals.ensures.value c.commander.ensures.value c.in-Ok.ensures.ok in
    let same : get_or there c.loop-rank.rank [] ≡ c.in-Ok.label = get_or_from_slice_get there c.loop-rank.rank c.in-Ok.label [] at in
    c.in_ok-push_label.ensures
    ∙ (ap (λ (x : List ℕ). x ++ label_text t c.loop-rank.rank c.with.result) c.loop-rank.invariant
    ∙ (ap (λ (w : List ℕ). (old ++ flat_map line (range_with_len 0 c.loop-rank.rank)) ++ label_text t c.loop-rank.rank w) (c.with.ensures ∙ ap (λ (w : List ℕ). w ++ c.args.general ∷ []) (sym same))
    ∙ range_text line c.loop-rank.rank old))
