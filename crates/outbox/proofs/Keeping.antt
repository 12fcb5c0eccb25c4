-- What stays the same when orders are stored by the receivers' numbers.
use Rattle.std.proofs.Common.{ℕ, ◌≡◌, ◌≢◌, List, get_or, set, true, false, sym, ap, ◌∙◌, ⊎_elim, None, Option, get_or-set_other, length-set}
use Rattle.std.proofs.lemmas.Bool.{false≢true, cases_Bool}
use Rattle.label.specs.Labels.{on}
use Rattle.outbox.specs.Rows.{row_of, order_in, IsRow}
use Rattle.outbox.proofs.RowLemmas.{names_in, order_there, order_absent}

-- A receiver's order depends only on his number.
pub order_kept : (os : List (Option ℕ)) (ns : List ℕ) (r : ℕ) → IsRow os ns → get_or os r None ≡ order_in r (row_of os ns)
order_kept os ns r row = ⊎_elim
    (λ (h : on ns r ≡ true). order_there os ns r h)
    (λ (h : on ns r ≡ false). row.absent r h ∙ order_absent (row_of os ns) r (ap (λ xs. on xs r) (names_in os ns) ∙ h))
    (cases_Bool (on ns r))

-- An order is put for one of the receivers.
pub row_written : (os : List (Option ℕ)) (ns : List ℕ) (r : ℕ) (x : Option ℕ) → IsRow os ns → on ns r ≡ true → IsRow (set os r x) ns
row_written os ns r x row there = record {
  long = length-set os r x ∙ row.long;
  below = row.below;
  distinct = row.distinct;
  absent = λ n away.
      let apart : n ≢ r = λ e. false≢true (sym away ∙ (ap (on ns) e ∙ there)) in
      get_or-set_other os r n x None apart ∙ row.absent n away;
}
