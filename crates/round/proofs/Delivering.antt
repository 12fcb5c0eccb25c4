-- The letters of one round fill one level of a tree.
use Rattle.std.proofs.Common.{◌≡◌, ◌≢◌, ℕ, zero, suc, ◌+◌, ◌<◌, ◌≤◌, List, [], ◌∷◌, length, drop, get_or, map, true, false, refl, sym, ap, subst, ◌∙◌, Some, Option, arith, ⊎_elim}
use Rattle.std.specs.Prelude.{slice_get, ◌==◌}
use Rattle.std.proofs.lemmas.Bool.{eq-eqb, ne_eqb}
use Rattle.std.proofs.lemmas.Bool.Decides.{eqb_tells}
use Rattle.std.proofs.lemmas.Option.{slice_get_within, slice_get-get_or}
use Rattle.std.proofs.Math.Seq.{drop-cons}
use Rattle.label.specs.Labels.{labels}
use Rattle.label.specs.Oral.{Messages}
use Rattle.label.proofs.Listing.{proved_labels_are_exact, proved_labels_differ}
use Rattle.tree.specs.LieutenantTree.{LieutenantTree, IsCampaign, IsFilled, SameCampaign, levels_from, told_also, told_run}
use Rattle.tree.proofs.Also.{also-here, also-other}
use Rattle.round.specs.Letters.{Letter}
use Rattle.round.specs.Told.{told_now, heard_also, round_of}
use Rattle.round.specs.Delivery.{IsPartly, FillsFromTo}
use Rattle.round.proofs.Lists.{some_same}

pub same_map : {B : Type 0} (F G : List ℕ → B) (ws : List (List ℕ)) → ((i : ℕ) (w : List ℕ) → slice_get ws i ≡ Some w → F w ≡ G w) → map F ws ≡ map G ws
same_map F G [] h = refl
same_map F G (w ∷ ws) h = (λ i. h 0 w refl i ∷ same_map F G ws (λ j u e. h (suc j) u e) i)

pub levels-same : (n c p : ℕ) (M N : Messages) (k l : ℕ) → ((j i : ℕ) (w : List ℕ) → k ≤ j → slice_get (labels n c p j) i ≡ Some w → M w p ≡ N w p) → levels_from n c p M k l ≡ levels_from n c p N k l
unfolding levels_from
levels-same n c p M N k zero h = refl
levels-same n c p M N k (suc l) h =
    (λ i. same_map (λ w. M w p) (λ w. N w p) (labels n c p k) (λ j w at. h k j w (omega arith) at) i ∷ levels-same n c p M N (suc k) l (λ j m w le at. h j m w (omega arith) at) i)

-- The labels of that round.
pub heard_here : (M : Messages) (row : List Letter) (w : List ℕ) (p : ℕ) → length w ≡ round_of row → heard_also M row w p ≡ told_now row w p
unfolding heard_also
heard_here M row w p e = rw (eq-eqb (length w) (round_of row) e) refl

pub heard_other : (M : Messages) (row : List Letter) (w : List ℕ) (p : ℕ) → (length w ≡ round_of row → ⊥) → heard_also M row w p ≡ M w p
unfolding heard_also
heard_other M row w p ne = rw (ne_eqb (length w) (round_of row) ne) refl

-- Without letters nothing is entered.
pub none_heard : (t : LieutenantTree) (row : List Letter) (M : Messages) → IsCampaign t → row ≡ [] → IsFilled t M → IsFilled t (heard_also M row)
none_heard t row M c none filled =
    filled ∙ levels-same t.generals t.commander t.general M (heard_also M row) 1 (t.bound + 1) (λ j i w le at.
    let long : length w ≡ j = (proved_labels_are_exact.only t.generals t.commander t.general j i w c.commander c.general c.lieutenant at).2 in
    let zero_round : round_of row ≡ 0 = ap round_of none in
    sym (heard_other M row w t.general (λ e. absurd (omega arith))))

-- Nothing is entered yet.
pub told_none : (t : LieutenantTree) (row : List Letter) (k i : ℕ) → FillsFromTo t row k i i t
told_none t row k i = record { same = record { generals = refl; bound = refl; commander = refl; general = refl }; partly = λ M p. p }

-- Orders are entered one after another.
pub told_on : (t : LieutenantTree) (row : List Letter) (k i j l : ℕ) (u v : LieutenantTree) → FillsFromTo t row k i j u → FillsFromTo u row k j l v → FillsFromTo t row k i l v
told_on t row k i j l u v h g = record {
  same = record { generals = g.same.generals ∙ h.same.generals; bound = g.same.bound ∙ h.same.bound; commander = g.same.commander ∙ h.same.commander; general = g.same.general ∙ h.same.general };
  partly = λ M p.
      subst (λ (n : ℕ). IsPartly M row n t.commander t.general k j u → IsPartly M row n t.commander t.general k l v) h.same.generals
      (subst (λ (c : ℕ). IsPartly M row u.generals c t.general k j u → IsPartly M row u.generals c t.general k l v) h.same.commander
      (subst (λ (q : ℕ). IsPartly M row u.generals u.commander q k j u → IsPartly M row u.generals u.commander q k l v) h.same.general (g.partly M))) (h.partly M p);
}

-- States that `N` is `M` except at labels of length `k` and rank below `i`, where it has the orders of the letters.
pub record IsToldUpTo (M : Messages) (row : List Letter) (n c p k i : ℕ) (N : Messages) : Type 0 where
  pub others : (w : List ℕ) → (length w ≡ k → ⊥) → N w p ≡ M w p
  pub done : (j : ℕ) (w : List ℕ) → j < i → slice_get (labels n c p k) j ≡ Some w → N w p ≡ told_now row w p

told_next : (M N : Messages) (row : List Letter) (n c p k i : ℕ) (w : List ℕ) (value : Option ℕ) → c < n → p < n → p ≢ c → IsToldUpTo M row n c p k i N →
    slice_get (labels n c p k) i ≡ Some w → value ≡ told_now row w p → IsToldUpTo M row n c p k (suc i) (told_also N w value)
told_next M N row n c p k i w value inside within ne t at is =
    let long : length w ≡ k = (proved_labels_are_exact.only n c p k i w inside within ne at).2 in
    record {
      others = λ x far. also-other N w value x p (λ e. far (ap length e ∙ long)) ∙ t.others x far;
      done = λ j x lt there. ⊎_elim
          (λ (q : (j == i ≡ true) × (j ≡ i)).
          let here : x ≡ w = some_same (sym there ∙ (ap (λ (m : ℕ). slice_get (labels n c p k) m) q.1 ∙ at)) in
          rw here (also-here N w value p ∙ is))
          (λ (q : (j == i ≡ false) × (j ≢ i)).
          also-other N w value x p (λ e. q.1 (proved_labels_differ n c p k j i w inside within ne (there ∙ ap Some e) at))
          ∙ t.done j x (let n = q.1 in omega arith) there)
          (eqb_tells j i);
    }

-- One label is entered.
pub told_one : (t : LieutenantTree) (row : List Letter) (k i : ℕ) (v : LieutenantTree) (w : List ℕ) (value : Option ℕ) → IsCampaign t → SameCampaign t v →
    slice_get (labels t.generals t.commander t.general k) i ≡ Some w → value ≡ told_now row w t.general →
    ((M : Messages) (x : List ℕ) → IsFilled t M → slice_get (labels t.generals t.commander t.general k) i ≡ Some x → IsFilled v (told_also M x value)) → FillsFromTo t row k i (suc i) v
told_one t row k i v w value c same at is fill = record {
  same = same;
  partly = λ M p.
      let next = told_next M p.N row t.generals t.commander t.general k i w value c.commander c.general c.lieutenant (record { others = p.others; done = p.done }) at is in
      record { N = told_also p.N w value; filled = fill p.N w p.filled at; others = next.others; done = next.done };
}

-- A run of labels is entered.
told_run_up_to : (M N : Messages) (row : List Letter) (n c p k i : ℕ) (vs : List (Option ℕ)) → c < n → p < n → p ≢ c → IsToldUpTo M row n c p k i N →
    ((j : ℕ) (v : Option ℕ) (w : List ℕ) → slice_get vs j ≡ Some v → slice_get (labels n c p k) (i + j) ≡ Some w → v ≡ told_now row w p) → i + length vs ≤ length (labels n c p k) →
    IsToldUpTo M row n c p k (i + length vs) (told_run N (drop i (labels n c p k)) vs)
unfolding told_run
told_run_up_to M N row n c p k i [] inside within ne t each fits = (let same : i ≡ i + 0 = omega arith in subst (λ (j : ℕ). IsToldUpTo M row n c p k j N) same t)
told_run_up_to M N row n c p k i (v ∷ vs) inside within ne t each fits =
    let w = get_or (labels n c p k) i [] in
    let here : i < length (labels n c p k) = omega arith in
    let at : slice_get (labels n c p k) i ≡ Some w = slice_get-get_or (labels n c p k) i [] here in
    let head : drop i (labels n c p k) ≡ w ∷ drop (suc i) (labels n c p k) = drop-cons (labels n c p k) i [] here in
    let now : i + 0 ≡ i = omega arith in
    let more : suc i + length vs ≡ i + suc (length vs) = omega arith in
    rw head (subst (λ (j : ℕ). IsToldUpTo M row n c p k j (told_run (told_also N w v) (drop (suc i) (labels n c p k)) vs)) more
    (told_run_up_to M (told_also N w v) row n c p k (suc i) vs inside within ne (told_next M N row n c p k i w v inside within ne t at (each 0 v w refl (rw now at)))
    (λ j u x there stands. let next : suc i + j ≡ i + suc j = omega arith in each (suc j) u x there (rw (← next) stands)) (omega arith)))

pub told_each : (t : LieutenantTree) (row : List Letter) (k i : ℕ) (u : LieutenantTree) (vs : List (Option ℕ)) → IsCampaign t → SameCampaign t u →
    ((j : ℕ) (v : Option ℕ) (w : List ℕ) → slice_get vs j ≡ Some v → slice_get (labels t.generals t.commander t.general k) (i + j) ≡ Some w → v ≡ told_now row w t.general) → i + length vs ≤ length (labels t.generals t.commander t.general k) →
    ((M : Messages) → IsFilled t M → IsFilled u (told_run M (drop i (labels t.generals t.commander t.general k)) vs)) → FillsFromTo t row k i (i + length vs) u
told_each t row k i u vs c same each fits fill = record {
  same = same;
  partly = λ M p.
      let all = told_run_up_to M p.N row t.generals t.commander t.general k i vs c.commander c.general c.lieutenant (record { others = p.others; done = p.done }) each fits in
      record { N = told_run p.N (drop i (labels t.generals t.commander t.general k)) vs; filled = fill p.N p.filled; others = all.others; done = all.done };
}

each_same : (t : LieutenantTree) (row : List Letter) (k i : ℕ) (u : LieutenantTree) (M : Messages) → IsCampaign t → k ≡ round_of row → length (labels t.generals t.commander t.general k) ≤ i → (p : IsPartly M row t.generals t.commander t.general k i u) →
    (j m : ℕ) (w : List ℕ) → 1 ≤ j → slice_get (labels t.generals t.commander t.general j) m ≡ Some w → p.N w t.general ≡ heard_also M row w t.general
each_same t row k i u M c ek all p j m w le at =
    let long : length w ≡ j = (proved_labels_are_exact.only t.generals t.commander t.general j m w c.commander c.general c.lieutenant at).2 in
    ⊎_elim
    (λ (q : (j == k ≡ true) × (j ≡ k)).
    p.done m w (let lt = slice_get_within (labels t.generals t.commander t.general j) m w at in let same : length (labels t.generals t.commander t.general j) ≡ length (labels t.generals t.commander t.general k) = ap (λ (x : ℕ). length (labels t.generals t.commander t.general x)) q.1 in omega arith)
    (ap (λ (x : ℕ). slice_get (labels t.generals t.commander t.general x) m) (sym q.1) ∙ at)
    ∙ sym (heard_here M row w t.general (long ∙ (q.1 ∙ ek))))
    (λ (q : (j == k ≡ false) × (j ≢ k)).
    p.others w (λ e. q.1 (sym long ∙ e)) ∙ sym (heard_other M row w t.general (λ e. q.1 (sym long ∙ (e ∙ sym ek)))))
    (eqb_tells j k)

-- All labels of the length are entered.
pub told_all : (t : LieutenantTree) (row : List Letter) (k i : ℕ) (u : LieutenantTree) → IsCampaign t → k ≡ round_of row → FillsFromTo t row k 0 i u → length (labels t.generals t.commander t.general k) ≤ i → (M : Messages) → IsFilled t M → IsFilled u (heard_also M row)
told_all t row k i u c ek h all M filled =
    let p = h.partly M (record { N = M; filled = filled; others = λ w ne. refl; done = λ j w lt at. absurd (omega arith) }) in
    p.filled ∙ (rw (h.same.generals, h.same.commander, h.same.general) (levels-same t.generals t.commander t.general p.N (heard_also M row) 1 (u.bound + 1) (each_same t row k i u M c ek all p)))
