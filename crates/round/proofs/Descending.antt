-- From a label to the labels that extend it by one general, and from the commander's label to all labels of a length.
use Rattle.std.proofs.Common.{◌≡◌, ◌≢◌, ℕ, suc, ◌+◌, ◌-◌, ◌*◌, ◌<◌, List, [], ◌∷◌, ◌++◌, length, false, refl, sym, ap, ◌∙◌, arith}
use Rattle.std.specs.Prelude.{slice_index, ◌==◌}
use Rattle.std.proofs.lemmas.Bool.{eq-eqb, ne_eqb, or_parts, true≢false}
use Rattle.std.proofs.lemmas.Option.{slice_get_within}
use Rattle.label.specs.Labels.{on, others, labels}
use Rattle.label.specs.Oral.{Messages}
use Rattle.label.proofs.Counting.{on-push}
use Rattle.label.proofs.Listing.{proved_labels_differ}
use Rattle.label.proofs.Places.{first_label}
use Rattle.tree.specs.LieutenantTree.{LieutenantTree, IsCampaign, IsFilled, SameCampaign}
use Rattle.round.specs.Letters.{Letter}
use Rattle.round.specs.Told.{heard_also, round_of}
use Rattle.round.specs.Fronts.{IsFront, under}
use Rattle.round.specs.Delivery.{FillsFromTo, IsWalk, first_under, past_under}
use Rattle.round.specs.declared.front.LabelPrefix.{LabelPrefix}
use Rattle.round.proofs.Delivering.{told_all}
use Rattle.round.proofs.Walking.{child_at, child_long, told_ends, level_long}

apart-from : (p x : ℕ) (w : List ℕ) → on (p ∷ w) x ≡ false → p ≢ x
apart-from p x w away = λ e. true≢false (sym (eq-eqb p x e) ∙ (or_parts (p == x) (on w x) away).0)

-- The ranks of the labels that begin with the extended label.
child_rank_is : (t : LieutenantTree) (row : List Letter) (places : List ℕ) (k : ℕ) (f : LabelPrefix) (walk : IsWalk t row places k f) → IsCampaign t → (x place : ℕ) → x < t.generals → on (t.general ∷ walk.w) x ≡ false → place ≡ length (others x (t.general ∷ walk.w)) → (g : LabelPrefix) → IsFront t.generals t.commander (walk.w ++ x ∷ []) g →
    slice_index g.ranks t.general ≡ slice_index f.ranks t.general * (t.generals - (f.size + 1)) + place
child_rank_is t row places k f walk c x place within away ep g child =
    let off : on (walk.w ++ x ∷ []) t.general ≡ false = on-push walk.w x t.general ∙ rw (walk.off, ne_eqb x t.general (λ e. apart-from t.general x walk.w away (sym e))) refl in
    proved_labels_differ t.generals t.commander t.general (length (walk.w ++ x ∷ [])) _ _ (walk.w ++ x ∷ []) c.commander c.general c.lieutenant (child.stands t.general c.general off)
    (child_at t.generals t.commander t.general x place (t.generals - (f.size + 1)) walk.w f walk.front c.commander c.general within walk.off away ep refl)

child_size_is : (n c x : ℕ) (w : List ℕ) (f g : LabelPrefix) → IsFront n c w f → IsFront n c (w ++ x ∷ []) g → g.size ≡ f.size + 1
child_size_is n c x w f g h child = child.size ∙ child_long n c x w f h

pub child_first : (t u : LieutenantTree) (row : List Letter) (places : List ℕ) (k : ℕ) (f : LabelPrefix) (walk : IsWalk t row places k f) → SameCampaign t u → IsCampaign t → (x place : ℕ) → x < t.generals → on (t.general ∷ walk.w) x ≡ false → place ≡ length (others x (t.general ∷ walk.w)) → (g : LabelPrefix) → IsFront t.generals t.commander (walk.w ++ x ∷ []) g →
    first_under u g k ≡ (slice_index f.ranks t.general * (t.generals - (f.size + 1)) + place) * under t.generals (f.size + 1) (k - (f.size + 1))
child_first t u row places k f walk same c x place within away ep g child =
    rw (same.general, same.generals)
    (ap (λ (r : ℕ). r * under t.generals g.size (k - g.size)) (child_rank_is t row places k f walk c x place within away ep g child)
    ∙ ap (λ (s : ℕ). (slice_index f.ranks t.general * (t.generals - (f.size + 1)) + place) * under t.generals s (k - s)) (child_size_is t.generals t.commander x walk.w f g walk.front child))

pub child_past : (t u : LieutenantTree) (row : List Letter) (places : List ℕ) (k : ℕ) (f : LabelPrefix) (walk : IsWalk t row places k f) → SameCampaign t u → IsCampaign t → (x place : ℕ) → x < t.generals → on (t.general ∷ walk.w) x ≡ false → place ≡ length (others x (t.general ∷ walk.w)) → (g : LabelPrefix) → IsFront t.generals t.commander (walk.w ++ x ∷ []) g →
    past_under u g k ≡ (slice_index f.ranks t.general * (t.generals - (f.size + 1)) + (place + 1)) * under t.generals (f.size + 1) (k - (f.size + 1))
child_past t u row places k f walk same c x place within away ep g child =
    let rank : slice_index g.ranks t.general ≡ slice_index f.ranks t.general * (t.generals - (f.size + 1)) + place = child_rank_is t row places k f walk c x place within away ep g child in
    let next : suc (slice_index g.ranks t.general) ≡ slice_index f.ranks t.general * (t.generals - (f.size + 1)) + (place + 1) = omega arith in
    rw (same.general, same.generals)
    (ap (λ (r : ℕ). r * under t.generals g.size (k - g.size)) next
    ∙ ap (λ (s : ℕ). (slice_index f.ranks t.general * (t.generals - (f.size + 1)) + (place + 1)) * under t.generals s (k - s)) (child_size_is t.generals t.commander x walk.w f g walk.front child))

pub all_walked : (t : LieutenantTree) (row : List Letter) (k : ℕ) (f : LabelPrefix) (u : LieutenantTree) → IsCampaign t → k ≡ round_of row → 1 < k → IsFront t.generals t.commander (t.commander ∷ []) f → FillsFromTo t row k (first_under t f k) (past_under t f k) u → (M : Messages) → IsFilled t M → IsFilled u (heard_also M row)
all_walked t row k f u c ek more front told =
    let off : on (t.commander ∷ []) t.general ≡ false = rw (ne_eqb t.commander t.general (λ e. c.lieutenant (sym e))) refl in
    let one : length (labels t.generals t.commander t.general 1) ≡ 1 = ap length (first_label t.generals t.commander t.general c.lieutenant) in
    let low = slice_get_within (labels t.generals t.commander t.general 1) (slice_index f.ranks t.general) (t.commander ∷ []) (front.stands t.general c.general off) in
    let none : slice_index f.ranks t.general ≡ 0 = omega arith in
    let zero_first : first_under t f k ≡ 0 = ap (λ (r : ℕ). r * under t.generals f.size (k - f.size)) none ∙ (omega arith) in
    let size : 1 + (k - 1) ≡ k = omega arith in
    let long : length (labels t.generals t.commander t.general (1 + (k - 1))) ≡ length (labels t.generals t.commander t.general 1) * under t.generals 1 (k - 1) =
    level_long (record { generals = t.generals; commander = t.commander; general = t.general }) 1 (k - 1) (record { generals = c.few; commander = c.commander; general = c.general; lieutenant = c.lieutenant }) (omega arith) in
    let long' : length (labels t.generals t.commander t.general k) ≡ 1 * under t.generals 1 (k - 1) =
    ap (λ (j : ℕ). length (labels t.generals t.commander t.general j)) (sym size) ∙ (long ∙ ap (λ (m : ℕ). m * under t.generals 1 (k - 1)) one) in
    let past : past_under t f k ≡ 1 * under t.generals 1 (k - 1) = ap (λ (r : ℕ). suc r * under t.generals f.size (k - f.size)) none ∙ ap (λ (s : ℕ). 1 * under t.generals s (k - s)) front.size in
    told_all t row k (past_under t f k) u c ek (told_ends t row k (first_under t f k) (past_under t f k) 0 (past_under t f k) u zero_first refl told) (omega arith)
