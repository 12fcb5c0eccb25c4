-- All labels of a length that begin with a given label.
use Rattle.std.proofs.Common.{◌≡◌, ◌≢◌, ℕ, zero, suc, ◌+◌, ◌-◌, ◌*◌, ◌<◌, ◌≤◌, ◌^◌, List, [], ◌∷◌, ◌++◌, length, take, Bool, true, false, not, cond, refl, sym, ap, ◌∙◌, subst, Some, None, Option, arith, length-append}
use Rattle.std.proofs.Math.Nat.{mul_assoc, mul-le-mul_right}
use Rattle.std.proofs.lemmas.Option.{slice_get_within}
use Rattle.std.specs.Prelude.{slice_get, slice_index, slice_index_or, ◌==◌, ◌||◌}
use Rattle.std.proofs.lemmas.Bool.{eq-eqb, ne_eqb, or_parts, not-true, true≢false}
use Rattle.label.specs.declared.shape.Shape.{Shape}
use Rattle.label.specs.Labels.{on, others, labels}
use Rattle.label.specs.Relay.{relay}
use Rattle.label.specs.Space.{IsSpace, labels_of}
use Rattle.label.specs.declared.space.Space.{Space}
use Rattle.label.proofs.Bounds.{others_length_more}
use Rattle.label.proofs.Counts.{count-more, row-fits}
use Rattle.label.proofs.Parts.{wide}
use Rattle.tree.specs.LieutenantTree.{LieutenantTree, IsCampaign, SameCampaign}
use Rattle.round.specs.Letters.{Letter, told_by, letter_of}
use Rattle.round.specs.Told.{AreDue, told_now, round_of}
use Rattle.round.specs.Fronts.{IsFront, under}
use Rattle.round.specs.Delivery.{order_in_letter, FillsFromTo, IsWalk}
use Rattle.round.specs.declared.front.LabelPrefix.{LabelPrefix}
use Rattle.round.proofs.Senders.{order_tells, letter_stands}
use Rattle.round.proofs.Prolonging.{child_rank, off-lieutenant, begun-long}
use Rattle.round.proofs.Fronts.{last-push, front-push}
use Rattle.round.proofs.Lists.{some_same}

pub told_last : (row : List Letter) (w : List ℕ) (x p : ℕ) → told_now row (w ++ x ∷ []) p ≡ told_by (letter_of row x) w p
told_last row w x p =
    let l = length-append w (x ∷ []) in
    let e : length (w ++ x ∷ []) - 1 ≡ length w = omega arith in
    ap (λ (k : ℕ). told_by (letter_of row (slice_index (w ++ x ∷ []) k)) (take k (w ++ x ∷ [])) p) e
    ∙ (ap (λ (g : ℕ). told_by (letter_of row g) (take (length w) (w ++ x ∷ [])) p) (last-push w x) ∙ ap (λ u. told_by (letter_of row x) u p) (front-push w x))

-- What a general's letter sends, by the label's rank among those that he relays.
order_by : (o : Option Letter) (s : Shape) (u : List ℕ) (p rank : ℕ) → ((l : Letter) → o ≡ Some l → l.outbox.relay.shape ≡ s) → s.commander < s.generals → s.general < s.generals → slice_get (relay s) rank ≡ Some u → order_in_letter o rank p ≡ told_by o u p
order_by None s u p rank due commander general at = refl
order_by (Some l) s u p rank due commander general at =
    let e : s ≡ l.outbox.relay.shape = sym (due l refl) in
    order_tells l.outbox.relay l.outbox.rows l.outbox.entries u p rank
    (subst (λ (z : Shape). z.commander < z.generals) e commander) (subst (λ (z : Shape). z.general < z.generals) e general) (subst (λ (z : Shape). slice_get (relay z) rank ≡ Some u) e at)

pub due_shape : (t : LieutenantTree) (row : List Letter) (x : ℕ) (l : Letter) → AreDue t row → letter_of row x ≡ Some l → l.outbox.relay.shape ≡ record { generals = t.generals; commander = t.commander; general = x; round = round_of row }
due_shape t row x l due e =
    let s = letter_stands row x l e in
    due.letters s.0 l s.1 ∙ ap (λ (g : ℕ). record { generals = t.generals; commander = t.commander; general = g; round = round_of row }) s.2

-- A label that is extended by one general.
pub child_told : (t : LieutenantTree) (row : List Letter) (w : List ℕ) (x rank : ℕ) (value : Option ℕ) → AreDue t row → t.commander < t.generals → x < t.generals → x ≢ t.commander → round_of row ≡ length w + 1 → slice_get (labels t.generals t.commander x (length w)) rank ≡ Some w →
    value ≡ order_in_letter (letter_of row x) rank t.general → value ≡ told_now row (w ++ x ∷ []) t.general
child_told t row w x rank value due inside within ne round at is =
    let less : length w ≡ round_of row - 1 = omega arith in
    is ∙ (order_by (letter_of row x) (record { generals = t.generals; commander = t.commander; general = x; round = round_of row }) w t.general rank (λ l e. due_shape t row x l due e) inside within
    (rw (ne_eqb x t.commander ne, ← less) at)
    ∙ sym (told_last row w x t.general))

-- The commander's label.
pub first_told : (t : LieutenantTree) (row : List Letter) (value : Option ℕ) → AreDue t row → t.commander < t.generals → round_of row ≡ 1 → value ≡ order_in_letter (letter_of row t.commander) 0 t.general → value ≡ told_now row (t.commander ∷ []) t.general
first_told t row value due inside round is =
    is ∙ (order_by (letter_of row t.commander) (record { generals = t.generals; commander = t.commander; general = t.commander; round = round_of row }) [] t.general 0 (λ l e. due_shape t row t.commander l due e) inside inside
    (rw (eq-eqb t.commander t.commander refl, eq-eqb (round_of row) 1 round) refl)
    ∙ sym (told_last row [] t.commander t.general))

-- How many labels begin with the labels of a length.
pub level_long : (s : Space) (k d : ℕ) → IsSpace s → 0 < k → length (labels_of s (k + d)) ≡ length (labels_of s k) * under s.generals k d
unfolding under
level_long s k zero is some = let e : k + 0 ≡ k = omega arith in ap (λ (j : ℕ). length (labels_of s j)) e ∙ (omega arith)
level_long s k (suc d) is some =
    let e : k + suc d ≡ k + 1 + d = omega arith in
    let one : k + 1 ≡ suc k = omega arith in
    let ih : length (labels_of s (k + 1 + d)) ≡ length (labels_of s (k + 1)) * under s.generals (k + 1) d = level_long s (k + 1) d is (omega arith) in
    let next : length (labels_of s k) * (s.generals - 1 - k) ≡ length (labels_of s (k + 1)) = count-more s is k (length (labels_of s k)) some refl in
    ap (λ (j : ℕ). length (labels_of s j)) e ∙ (ih ∙ (ap (λ (m : ℕ). m * under s.generals (k + 1) d) (sym next)
    ∙ (mul_assoc (length (labels_of s k)) (s.generals - 1 - k) (under s.generals (k + 1) d) ∙ ap (λ (j : ℕ). length (labels_of s k) * ((s.generals - 1 - k) * under s.generals j d)) one)))

-- The labels that begin with a label are those that begin with its extensions by one general.
pub under_step : (n s k : ℕ) → s < k → under n s (k - s) ≡ (n - (s + 1)) * under n (s + 1) (k - (s + 1))
unfolding under
under_step n s k less =
    let e : k - s ≡ suc (k - (s + 1)) = omega arith in
    let a : n - 1 - s ≡ n - (s + 1) = omega arith in
    let b : suc s ≡ s + 1 = omega arith in
    ap (λ (m : ℕ). under n s m) e ∙ (ap (λ (x : ℕ). x * under n (suc s) (k - (s + 1))) a ∙ ap (λ (y : ℕ). (n - (s + 1)) * under n y (k - (s + 1))) b)

under_none : (n s : ℕ) → under n s 0 ≡ 1
unfolding under
under_none n s = refl

pub under_first : (n r s k : ℕ) → s < k → r * under n s (k - s) ≡ (r * (n - (s + 1)) + 0) * under n (s + 1) (k - (s + 1))
under_first n r s k less =
    let zero_more : r * (n - (s + 1)) ≡ r * (n - (s + 1)) + 0 = omega arith in
    ap (λ (u : ℕ). r * u) (under_step n s k less) ∙ (sym (mul_assoc r (n - (s + 1)) (under n (s + 1) (k - (s + 1)))) ∙ ap (λ (m : ℕ). m * under n (s + 1) (k - (s + 1))) zero_more)

pub suc_times : (r x : ℕ) → r * x + x ≡ suc r * x
suc_times r x = grind arith

pub under_past : (n r s k place : ℕ) → s < k → place ≡ n - (s + 1) → (r * (n - (s + 1)) + place) * under n (s + 1) (k - (s + 1)) ≡ suc r * under n s (k - s)
under_past n r s k place less e =
    let all : r * (n - (s + 1)) + place ≡ suc r * (n - (s + 1)) = ap (λ (x : ℕ). r * (n - (s + 1)) + x) e ∙ suc_times r (n - (s + 1)) in
    ap (λ (m : ℕ). m * under n (s + 1) (k - (s + 1))) all ∙ (mul_assoc (suc r) (n - (s + 1)) (under n (s + 1) (k - (s + 1))) ∙ ap (λ (u : ℕ). suc r * u) (sym (under_step n s k less)))

-- The extensions by one general are the whole labels.
pub under_one : (n r s k : ℕ) → s + 1 ≡ k → r * under n s (k - s) ≡ r * (n - k)
under_one n r s k e =
    let step : under n s (k - s) ≡ (n - (s + 1)) * under n (s + 1) (k - (s + 1)) = under_step n s k (omega arith) in
    let none : k - (s + 1) ≡ 0 = omega arith in
    let last : under n (s + 1) (k - (s + 1)) ≡ 1 = ap (λ (d : ℕ). under n (s + 1) d) none ∙ under_none n (s + 1) in
    let width : (n - (s + 1)) * 1 ≡ n - k = omega arith in
    ap (λ (u : ℕ). r * u) (step ∙ (ap (λ (u : ℕ). (n - (s + 1)) * u) last ∙ width))

-- One extension of a label by a general.
pub child_at : (n c p x place width : ℕ) (w : List ℕ) (f : LabelPrefix) → IsFront n c w f → c < n → p < n → x < n → on w p ≡ false → on (p ∷ w) x ≡ false → place ≡ length (others x (p ∷ w)) → width ≡ n - (f.size + 1) →
    slice_get (labels n c p (length (w ++ x ∷ []))) (slice_index f.ranks p * width + place) ≡ Some (w ++ x ∷ [])
child_at n c p x place width w f h inside pin xin off away ep ew =
    let parts = or_parts (p == x) (on w x) away in
    let ne : p ≢ x = λ e. true≢false (sym (eq-eqb p x e) ∙ parts.0) in
    let s = h.size in
    child_rank n c p (slice_index f.ranks p) x place width w inside pin xin h.label.first off parts.1 ne (h.stands p pin off) ep (omega arith)

pub child_long : (n c x : ℕ) (w : List ℕ) (f : LabelPrefix) → IsFront n c w f → length (w ++ x ∷ []) ≡ f.size + 1
child_long n c x w f h = let s = h.size in let l = length-append w (x ∷ []) in omega arith

-- Whether a general is off the label, and how many off it have lower numbers.
pub off_told : (n c p x : ℕ) (w : List ℕ) (f : LabelPrefix) (b : Bool) → IsFront n c w f → x < n → b ≡ not (p == x || slice_index_or f.on x false) → b ≡ not (on (p ∷ w) x)
off_told n c p x w f b h lt is = is ∙ ap (λ m. not (p == x || m)) (h.marks x lt)

pub place_next : (p x place : ℕ) (w : List ℕ) (b : Bool) → b ≡ not (on (p ∷ w) x) → b ≡ true → place ≡ length (others x (p ∷ w)) → place + 1 ≡ length (others (x + 1) (p ∷ w))
place_next p x place w b is yes_off at =
    let off : on (p ∷ w) x ≡ false = not-true (on (p ∷ w) x) (sym is ∙ yes_off) in
    let more : length (others (x + 1) (p ∷ w)) ≡ length (others x (p ∷ w)) + cond {A = ℕ} (on (p ∷ w) x) 0 1 = others_length_more (p ∷ w) x in
    let one : cond {A = ℕ} (on (p ∷ w) x) 0 1 ≡ 1 = ap (λ (q : Bool). cond {A = ℕ} q 0 1) off in
    omega arith

pub place_same : (p x place : ℕ) (w : List ℕ) (b : Bool) → b ≡ not (on (p ∷ w) x) → b ≡ false → place ≡ length (others x (p ∷ w)) → place ≡ length (others (x + 1) (p ∷ w))
place_same p x place w b is no_off at =
    let there : on (p ∷ w) x ≡ true = not_false (on (p ∷ w) x) (sym is ∙ no_off) in
    let more : length (others (x + 1) (p ∷ w)) ≡ length (others x (p ∷ w)) + cond {A = ℕ} (on (p ∷ w) x) 0 1 = others_length_more (p ∷ w) x in
    let none : cond {A = ℕ} (on (p ∷ w) x) 0 1 ≡ 0 = ap (λ (q : Bool). cond {A = ℕ} q 0 1) there in
    omega arith
  where
    not_false : (b : Bool) → not b ≡ false → b ≡ true
    not_false true e = refl
    not_false false e = cc

pub off_true : (p x : ℕ) (w : List ℕ) (b : Bool) → b ≡ not (on (p ∷ w) x) → b ≡ true → on (p ∷ w) x ≡ false
off_true p x w b is yes_off = not-true (on (p ∷ w) x) (sym is ∙ yes_off)

-- All extensions by one general.
pub all_children : (n c p place : ℕ) (w : List ℕ) (f : LabelPrefix) → IsFront n c w f → c < n → p < n → on w p ≡ false → place ≡ length (others n (p ∷ w)) → place ≡ n - (f.size + 1)
all_children n c p place w f h inside pin off at =
    let s = h.size in
    let long : length w ≡ suc (length w - 1) = begun-long c w h.label.first in
    let all : length (others n (p ∷ w)) ≡ n - 1 - suc (length w - 1) =
    wide n c p (length w - 1) (slice_index f.ranks p) w inside pin (off-lieutenant c p w h.label.first off) (subst (λ (k : ℕ). slice_get (labels n c p k) (slice_index f.ranks p) ≡ Some w) long (h.stands p pin off)) in
    omega arith

pub same_campaign : (t u : LieutenantTree) → SameCampaign t u → IsCampaign t → IsCampaign u
same_campaign t u same c = record {
  few = rw same.generals c.few;
  commander = rw (same.commander, same.generals) c.commander;
  general = rw (same.general, same.generals) c.general;
  lieutenant = rw (same.general, same.commander) c.lieutenant;
  small = rw same.bound c.small;
}

pub same_due : (t u : LieutenantTree) (row : List Letter) → SameCampaign t u → AreDue t row → AreDue u row
same_due t u row same due = record {
  round = rw same.bound due.round;
  letters = λ i l at. rw (same.generals, same.commander) (due.letters i l at);
}

pub told_ends : (t : LieutenantTree) (row : List Letter) (k i j a b : ℕ) (u : LieutenantTree) → i ≡ a → j ≡ b → FillsFromTo t row k i j u → FillsFromTo t row k a b u
told_ends t row k i j a b u ei ej h = subst (λ (x : ℕ). FillsFromTo t row k x b u) ei (subst (λ (y : ℕ). FillsFromTo t row k i y u) ej h)

-- The order for an extended label.
pub tell_child : (t : LieutenantTree) (row : List Letter) (places : List ℕ) (k : ℕ) (f : LabelPrefix) (walk : IsWalk t row places k f) → f.size + 1 ≡ k → IsCampaign t → (first width place x : ℕ) → width ≡ t.generals - k → first ≡ slice_index f.ranks t.general * width →
    x < t.generals → on (t.general ∷ walk.w) x ≡ false → place ≡ length (others x (t.general ∷ walk.w)) → (value : Option ℕ) → value ≡ order_in_letter (letter_of row x) (slice_index f.ranks x) t.general →
    (w : List ℕ) → slice_get (labels t.generals t.commander t.general k) (first + place) ≡ Some w → value ≡ told_now row w t.general
tell_child t row places k f walk last c first width place x ew ef within away ep value is w there =
    let parts = or_parts (t.general == x) (on walk.w x) away in
    let h = walk.front in
    let s = h.size in
    let ew' : width ≡ t.generals - (f.size + 1) = omega arith in
    let size : length (walk.w ++ x ∷ []) ≡ k = child_long t.generals t.commander x walk.w f h ∙ last in
    let at : slice_get (labels t.generals t.commander t.general k) (first + place) ≡ Some (walk.w ++ x ∷ []) =
    ap (λ (r : ℕ). slice_get (labels t.generals t.commander t.general k) (r + place)) ef ∙ subst (λ (j : ℕ). slice_get (labels t.generals t.commander t.general j) (slice_index f.ranks t.general * width + place) ≡ Some (walk.w ++ x ∷ [])) size
    (child_at t.generals t.commander t.general x place width walk.w f h c.commander c.general within walk.off away ep ew') in
    let round : round_of row ≡ length walk.w + 1 = sym walk.size ∙ (omega arith) in
    let it : walk.w ++ x ∷ [] ≡ w = some_same (sym at ∙ there) in
    child_told t row walk.w x (slice_index f.ranks x) value walk.due c.commander within (off-lieutenant t.commander x walk.w h.label.first parts.1) round (h.stands x within parts.1) is
    ∙ ap (λ u. told_now row u t.general) it

-- The extensions by one general fill one run of ranks.
pub children_fit : (t : LieutenantTree) (row : List Letter) (places : List ℕ) (k : ℕ) (f : LabelPrefix) (walk : IsWalk t row places k f) → f.size + 1 ≡ k → IsCampaign t → (first width : ℕ) → width ≡ t.generals - k → first ≡ slice_index f.ranks t.general * width →
    first + width ≤ length (labels t.generals t.commander t.general k)
children_fit t row places k f walk last c first width ew ef =
    let h = walk.front in
    let s = h.size in
    let space : Space = record { generals = t.generals; commander = t.commander; general = t.general } in
    let is : IsSpace space = record { generals = c.few; commander = c.commander; general = c.general; lieutenant = c.lieutenant } in
    let rank = slice_get_within (labels_of space (length walk.w)) (slice_index f.ranks t.general) walk.w (h.stands t.general c.general walk.off) in
    let long : length walk.w ≡ suc (length walk.w - 1) = begun-long t.commander walk.w h.label.first in
    let wide : t.generals - 1 - length walk.w ≡ width = omega arith in
    let size : length walk.w + 1 ≡ k = omega arith in
    let all : length (labels_of space (length walk.w)) * width ≡ length (labels_of space k) =
    ap (λ (m : ℕ). length (labels_of space (length walk.w)) * m) (sym wide) ∙ (count-more space is (length walk.w) (length (labels_of space (length walk.w))) (omega arith) refl ∙ ap (λ (j : ℕ). length (labels_of space j)) size) in
    let past : first + width ≡ suc (slice_index f.ranks t.general) * width = ap (λ (r : ℕ). r + width) ef ∙ suc_times (slice_index f.ranks t.general) width in
    let within : suc (slice_index f.ranks t.general) * width ≤ length (labels_of space (length walk.w)) * width = mul-le-mul_right width rank in
    omega arith

-- The rank of an extended label is within the level.
pub row_fits : (t : LieutenantTree) (row : List Letter) (places : List ℕ) (k : ℕ) (f : LabelPrefix) (walk : IsWalk t row places k f) → IsCampaign t → (g width : ℕ) → g ≡ t.general → width ≡ t.generals - (f.size + 1) → slice_index f.ranks g * width < 2 ^ 32
row_fits t row places k f walk c g width eg ew =
    let h = walk.front in let s = h.size in let d = walk.due.round in let z = walk.size in let b = c.small in let l = walk.short in
    let long : length walk.w ≡ suc (length walk.w - 1) = begun-long t.commander walk.w h.label.first in
    let width' : t.generals - 1 - length walk.w ≡ width = omega arith in
    subst (λ (q : ℕ). slice_index f.ranks q * width < 2 ^ 32) (sym eg) (subst (λ (v : ℕ). slice_index f.ranks t.general * v < 2 ^ 32) width'
    (row-fits (record { generals = t.generals; commander = t.commander; general = t.general }) (record { generals = c.few; commander = c.commander; general = c.general; lieutenant = c.lieutenant })
    (length walk.w) (slice_index f.ranks t.general) walk.w (omega arith) (omega arith) (h.stands t.general c.general walk.off)))
