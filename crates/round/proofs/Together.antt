-- The trees of all lieutenants are filled in one walk of the labels.
use Rattle.std.proofs.Common.{◌≡◌, ◌≢◌, ℕ, ◌+◌, ◌-◌, ◌*◌, ◌<◌, List, [], ◌∷◌, ◌++◌, length, get_or, Bool, true, false, ◌||◌, cond, refl, sym, ap, subst, ◌∙◌, Some, Option, arith, ⊎_elim}
use Rattle.std.specs.Prelude.{slice_get, slice_index, slice_index_or, ◌==◌}
use Rattle.std.proofs.lemmas.Bool.{eq-eqb, ne_eqb, true≢false, cases_Bool}
use Rattle.std.proofs.lemmas.Bool.Decides.{eqb_tells}
use Rattle.std.proofs.lemmas.Option.{slice_get_within, slice_get-get_or, slice_get_read}
use Rattle.label.specs.declared.shape.Shape.{Shape}
use Rattle.label.specs.Labels.{on, others, labels}
use Rattle.label.specs.Oral.{Messages}
use Rattle.label.proofs.Bounds.{others_length_more}
use Rattle.label.proofs.Counting.{on-push}
use Rattle.label.proofs.Places.{first_label}
use Rattle.outbox.proofs.Single.{same_default}
use Rattle.tree.specs.LieutenantTree.{LieutenantTree, IsFilled, SameCampaign, told_also}
use Rattle.round.specs.Letters.{Letter, letter_of}
use Rattle.round.specs.Fronts.{IsFront, under}
use Rattle.round.specs.Told.{AreOfCampaign, round_of, told_now}
use Rattle.round.specs.Delivery.{AreEach, AreTellers, IsDueIn, FillsFromTo, IsRoute, IsTold, IsToldUnder, IsWalk, first_under, order_in_letter, Tellers}
use Rattle.round.specs.declared.front.LabelPrefix.{LabelPrefix}
use Rattle.round.proofs.Delivering.{none_heard, told_all, told_none, told_on, told_one}
use Rattle.round.proofs.Walking.{all_children, child_long, first_told, same_campaign, same_due, told_ends, under_first, under_past}
use Rattle.round.proofs.Descending.{all_walked, child_first, child_past}
use Rattle.std.proofs.Math.Bool.{or-true}

-- States what was entered for the labels that begin with this one and continue with a general below `x`.
pub record IsToldUpTo (row : List Letter) (k : ℕ) (f : LabelPrefix) (x : ℕ) (t u : LieutenantTree) : Type 0 where
  pub on : slice_index_or f.on t.general false ≡ true → u ≡ t
  pub off : slice_index_or f.on t.general false ≡ false → (w : List ℕ) → IsFront t.generals t.commander w f →
      FillsFromTo t row k (first_under t f k) ((slice_index f.ranks t.general * (t.generals - (f.size + 1)) + length (others x (t.general ∷ w))) * under t.generals (f.size + 1) (k - (f.size + 1))) u

same_tree : {a b : LieutenantTree} → Some a ≡ Some b → a ≡ b
same_tree e = cc

unlike : (b : Bool) → b ≡ true → b ≡ false → ⊥
unlike b yes_it no_it = true≢false (sym yes_it ∙ no_it)

-- The walk for one tree.
pub own_walk : (n : ℕ) (row : List Letter) (places : List ℕ) (k : ℕ) (f : LabelPrefix) (trees : List LieutenantTree) (route : IsRoute n row places k f trees) (t : LieutenantTree) → IsDueIn n route.c row t → slice_index_or f.on t.general false ≡ false → (w : List ℕ) → IsFront t.generals t.commander w f → IsWalk t row places k f
own_walk n row places k f trees route t d mark w front = record {
  due = d.due;
  size = route.size;
  indexed = route.indexed;
  short = route.short;
  w = w;
  front = front;
  off = sym (front.marks t.general d.kind.general) ∙ mark;
}

pub own_front : (n c : ℕ) (row : List Letter) (f : LabelPrefix) (w : List ℕ) (t : LieutenantTree) → IsDueIn n c row t → IsFront n c w f → IsFront t.generals t.commander w f
own_front n c row f w t d front = rw (d.generals, d.commander) front

-- Nothing is entered yet.
pub up_from : (n : ℕ) (row : List Letter) (places : List ℕ) (k : ℕ) (f : LabelPrefix) (trees : List LieutenantTree) → IsRoute n row places k f trees → AreEach (IsToldUpTo row k f 0) trees trees
up_from n row places k f trees route = record {
  count = refl;
  each = λ j t u was now.
      let same : u ≡ t = same_tree (sym now ∙ was) in
      rw same (record {
        on = λ e. refl;
        off = λ e w front. told_ends t row k _ _ _ _ t refl (under_first t.generals (slice_index f.ranks t.general) f.size k route.short) (told_none t row k _);
      });
}

-- The tree stays one of the same campaign.
pub same_up : (n c : ℕ) (row : List Letter) (k : ℕ) (f : LabelPrefix) (x : ℕ) (w : List ℕ) (t u : LieutenantTree) → IsDueIn n c row t → IsFront n c w f → IsToldUpTo row k f x t u → SameCampaign t u
same_up n c row k f x w t u d front h = ⊎_elim
    (λ (q : slice_index_or f.on t.general false ≡ true). let e : u ≡ t = h.on q in rw e (record { generals = refl; bound = refl; commander = refl; general = refl }))
    (λ (q : slice_index_or f.on t.general false ≡ false). (h.off q w (own_front n c row f w t d front)).same)
    (cases_Bool (slice_index_or f.on t.general false))

due_after : (n c : ℕ) (row : List Letter) (t u : LieutenantTree) → IsDueIn n c row t → SameCampaign t u → IsDueIn n c row u
due_after n c row t u d same = record {
  kind = same_campaign t u same d.kind;
  generals = same.generals ∙ d.generals;
  commander = same.commander ∙ d.commander;
  due = same_due t u row same d.due;
}

-- The tree that was at an index before.
before_at : (Are : LieutenantTree → LieutenantTree → Type 0) (old new : List LieutenantTree) (j : ℕ) (u : LieutenantTree) → AreEach Are old new → slice_get new j ≡ Some u → slice_get old j ≡ Some (get_or old j u)
before_at Are old new j u h now = slice_get-get_or old j u (let l = slice_get_within new j u now in let e = h.count in omega arith)

-- The walk from an extended label.
pub child_route : (n : ℕ) (row : List Letter) (places : List ℕ) (k : ℕ) (f g : LabelPrefix) (old cur : List LieutenantTree) (route : IsRoute n row places k f old) (x : ℕ) → f.size + 1 ≢ k → IsFront n route.c (route.w ++ x ∷ []) g → AreEach (IsToldUpTo row k f x) old cur → IsRoute n row places k g cur
child_route n row places k f g old cur route x more child told = record {
  few = route.few;
  size = route.size;
  small = route.small;
  indexed = route.indexed;
  short = (let s = child.size in let l = child_long n route.c x route.w f route.front in let b = route.short in omega arith);
  c = route.c;
  w = route.w ++ x ∷ [];
  inside = route.inside;
  front = child;
  due = λ j u now.
      let was = before_at (IsToldUpTo row k f x) old cur j u told now in
      let d = route.due j (get_or old j u) was in
      due_after n route.c row (get_or old j u) u d (same_up n route.c row k f x route.w (get_or old j u) u d route.front (told.each j (get_or old j u) u was now));
}

-- No more generals are excluded.
on_same : (p x : ℕ) (w : List ℕ) → on (p ∷ w) x ≡ true → length (others x (p ∷ w)) ≡ length (others (x + 1) (p ∷ w))
on_same p x w it =
    let more : length (others (x + 1) (p ∷ w)) ≡ length (others x (p ∷ w)) + cond {A = ℕ} (on (p ∷ w) x) 0 1 = others_length_more (p ∷ w) x in
    let none : cond {A = ℕ} (on (p ∷ w) x) 0 1 ≡ 0 = ap (λ (q : Bool). cond {A = ℕ} q 0 1) it in
    omega arith

off_more : (p x : ℕ) (w : List ℕ) → on (p ∷ w) x ≡ false → length (others x (p ∷ w)) + 1 ≡ length (others (x + 1) (p ∷ w))
off_more p x w it =
    let more : length (others (x + 1) (p ∷ w)) ≡ length (others x (p ∷ w)) + cond {A = ℕ} (on (p ∷ w) x) 0 1 = others_length_more (p ∷ w) x in
    let one : cond {A = ℕ} (on (p ∷ w) x) 0 1 ≡ 1 = ap (λ (q : Bool). cond {A = ℕ} q 0 1) it in
    omega arith

-- A general on the label is skipped.
pub up_on : (n : ℕ) (row : List Letter) (places : List ℕ) (k : ℕ) (f : LabelPrefix) (old cur : List LieutenantTree) → IsRoute n row places k f old → (x : ℕ) → x < n → slice_index_or f.on x false ≡ true → AreEach (IsToldUpTo row k f x) old cur → AreEach (IsToldUpTo row k f (x + 1)) old cur
up_on n row places k f old cur route x within mark told = record {
  count = told.count;
  each = λ j t u was now.
      let h = told.each j t u was now in
      let d = route.due j t was in
      record {
        on = h.on;
        off = λ q w front.
            let within' : x < t.generals = let e = d.generals in omega arith in
            let there : on (t.general ∷ w) x ≡ true = rw (sym (front.marks x within') ∙ mark) (or-true (t.general == x)) in
            told_ends t row k _ _ _ _ u refl (ap (λ (m : ℕ). (slice_index f.ranks t.general * (t.generals - (f.size + 1)) + m) * under t.generals (f.size + 1) (k - (f.size + 1))) (on_same t.general x w there)) (h.off q w front);
      };
}

-- A general off the label extends it, and the labels with him are entered.
one_off : (n : ℕ) (row : List Letter) (places : List ℕ) (k : ℕ) (f g : LabelPrefix) (old : List LieutenantTree) (route : IsRoute n row places k f old) (x : ℕ) → x < n → slice_index_or f.on x false ≡ false → ((w : List ℕ) → IsFront n route.c w f → IsFront n route.c (w ++ x ∷ []) g) →
    (t u v : LieutenantTree) → IsDueIn n route.c row t → IsToldUpTo row k f x t u → IsToldUnder row k g u v → IsToldUpTo row k f (x + 1) t v
unfolding own_walk
one_off n row places k f g old route x within mark child t u v d h below =
    let same = same_up n route.c row k f x route.w t u d route.front h in
    let pin : u.general < n = let a = same.general in let b = d.kind.general in let e = d.generals in omega arith in
    let longer : slice_index_or g.on u.general false ≡ (on route.w u.general || (x == u.general)) = (child route.w route.front).marks u.general pin ∙ on-push route.w x u.general in
    let short : slice_index_or f.on t.general false ≡ on route.w u.general = (let pin' : t.general < n = let b = d.kind.general in let e = d.generals in omega arith in route.front.marks t.general pin') ∙ ap (on route.w) (sym same.general) in
    record {
      on = λ q. below.on (longer ∙ rw (sym short ∙ q) refl) ∙ h.on q;
      off = λ q w front. ⊎_elim
          (λ (r : (x == u.general ≡ true) × (x ≡ u.general)).
          let still : v ≡ u = below.on (longer ∙ rw r.0 (or-true (on route.w u.general))) in
          let here : (t.general == x) ≡ true = eq-eqb t.general x (sym same.general ∙ sym r.1) in
          let there : on (t.general ∷ w) x ≡ true = rw here refl in
          rw still (told_ends t row k _ _ _ _ u refl (ap (λ (m : ℕ). (slice_index f.ranks t.general * (t.generals - (f.size + 1)) + m) * under t.generals (f.size + 1) (k - (f.size + 1))) (on_same t.general x w there)) (h.off q w front)))
          (λ (r : (x == u.general ≡ false) × (x ≢ u.general)).
          let free : slice_index_or g.on u.general false ≡ false = longer ∙ rw (sym short ∙ q, r.0) refl in
          let within' : x < t.generals = let e = d.generals in omega arith in
          let other : (t.general == x) ≡ false = ne_eqb t.general x (λ e. r.1 (sym (same.general ∙ e))) in
          let away : on (t.general ∷ w) x ≡ false = rw (other, sym (front.marks x within') ∙ mark) refl in
          let walk = own_walk n row places k f old route t d q w front in
          let wide : IsFront n route.c w f = rw (← d.generals, ← d.commander) front in
          let next : IsFront t.generals t.commander (w ++ x ∷ []) g = rw (d.generals, d.commander) (child w wide) in
          told_on t row k _ _ _ u v (h.off q w front)
          (told_ends u row k _ _ _ _ v
          (child_first t u row places k f walk same d.kind x (length (others x (t.general ∷ w))) within' away refl g next)
          (child_past t u row places k f walk same d.kind x (length (others x (t.general ∷ w))) within' away refl g next
          ∙ ap (λ (m : ℕ). (slice_index f.ranks t.general * (t.generals - (f.size + 1)) + m) * under t.generals (f.size + 1) (k - (f.size + 1))) (off_more t.general x w away))
          (below.off free)))
          (eqb_tells x u.general);
    }

pub up_off : (n : ℕ) (row : List Letter) (places : List ℕ) (k : ℕ) (f g : LabelPrefix) (old cur new : List LieutenantTree) (route : IsRoute n row places k f old) (x : ℕ) → x < n → slice_index_or f.on x false ≡ false → ((w : List ℕ) → IsFront n route.c w f → IsFront n route.c (w ++ x ∷ []) g) →
    AreEach (IsToldUpTo row k f x) old cur → AreEach (IsToldUnder row k g) cur new → AreEach (IsToldUpTo row k f (x + 1)) old new
up_off n row places k f g old cur new route x within mark child told below = record {
  count = below.count ∙ told.count;
  each = λ j t v was now.
      let at = before_at (IsToldUnder row k g) cur new j v below now in
      one_off n row places k f g old route x within mark child t (get_or cur j v) v (route.due j t was) (told.each j t (get_or cur j v) was at) (below.each j (get_or cur j v) v at now);
}

-- All generals were considered.
pub up_all : (n : ℕ) (row : List Letter) (places : List ℕ) (k : ℕ) (f : LabelPrefix) (old new : List LieutenantTree) → IsRoute n row places k f old → AreEach (IsToldUpTo row k f n) old new → AreEach (IsToldUnder row k f) old new
up_all n row places k f old new route told = record {
  count = told.count;
  each = λ j t u was now.
      let h = told.each j t u was now in
      let d = route.due j t was in
      record {
        on = h.on;
        off = λ q.
            let front = own_front n route.c row f route.w t d route.front in
            let off : on route.w t.general ≡ false = sym (front.marks t.general d.kind.general) ∙ q in
            let all : length (others n (t.general ∷ route.w)) ≡ t.generals - (f.size + 1) = all_children t.generals t.commander t.general _ route.w f front d.kind.commander d.kind.general off (ap (λ (m : ℕ). length (others m (t.general ∷ route.w))) (sym d.generals)) in
            told_ends t row k _ _ _ _ u refl (under_past t.generals (slice_index f.ranks t.general) f.size k (length (others n (t.general ∷ route.w))) route.short all) (h.off q route.w front);
      };
}

-- The walk begins with the commander's label.
pub all_told : (n c : ℕ) (row : List Letter) (k : ℕ) (f : LabelPrefix) (old new : List LieutenantTree) → ((j : ℕ) (t : LieutenantTree) → slice_get old j ≡ Some t → IsDueIn n c row t) → k ≡ round_of row → 1 < k → IsFront n c (c ∷ []) f → AreEach (IsToldUnder row k f) old new → AreEach (IsTold row) old new
all_told n c row k f old new due ek more front told = record {
  count = told.count;
  each = λ j t u was now.
      let d = due j t was in
      let mark : slice_index_or f.on t.general false ≡ false = (let pin : t.general < n = let b = d.kind.general in let e = d.generals in omega arith in front.marks t.general pin) ∙ rw (ne_eqb c t.general (λ e. d.kind.lieutenant (sym (d.commander ∙ e)))) refl in
      let under_it = (told.each j t u was now).off mark in
      let own : IsFront t.generals t.commander (t.commander ∷ []) f = rw (d.generals, d.commander) front in
      record { same = under_it.same; filled = all_walked t row k f u d.kind ek more own under_it };
}

-- The tree that is read at an index.
pub read_again : (trees : List LieutenantTree) (i : ℕ) (t u : LieutenantTree) → i < length trees → get_or trees i t ≡ get_or trees i u
read_again trees i t u lt = same_default trees i t u lt

pub stays_read : (trees : List LieutenantTree) (i : ℕ) (u : LieutenantTree) → i < length trees → get_or trees i u ≡ get_or trees i (get_or trees i u)
stays_read trees i u lt = same_default trees i u (get_or trees i u) lt

-- The generals who send a tree's lieutenant orders about the label.
pub own_tellers : (n : ℕ) (row : List Letter) (f : LabelPrefix) (tellers : Tellers) (t : LieutenantTree) → t.generals ≡ n → AreTellers row n f n tellers → AreTellers row t.generals f t.generals tellers
own_tellers n row f tellers t e all = rw e all

-- The commander's label is entered.
pub first_done : (n c : ℕ) (row : List Letter) (t u : LieutenantTree) (value : Option ℕ) → IsDueIn n c row t → round_of row ≡ 1 → value ≡ order_in_letter (letter_of row c) 0 t.general → SameCampaign t u →
    ((M : Messages) (w : List ℕ) → IsFilled t M → slice_get (labels t.generals t.commander t.general 1) 0 ≡ Some w → IsFilled u (told_also M w value)) → IsTold row t u
first_done n c row t u value d round is same fill =
    let alone : labels t.generals t.commander t.general 1 ≡ (t.commander ∷ []) ∷ [] = first_label t.generals t.commander t.general d.kind.lieutenant in
    let now : value ≡ told_now row (t.commander ∷ []) t.general = first_told t row value d.due d.kind.commander round (is ∙ ap (λ (g : ℕ). order_in_letter (letter_of row g) 0 t.general) (sym d.commander)) in
    record {
      same = same;
      filled = told_all t row 1 1 u d.kind (sym round)
          (told_one t row 1 0 u (t.commander ∷ []) value d.kind same (ap (λ ws. slice_get ws 0) alone) now fill)
          (let one : length (labels t.generals t.commander t.general 1) ≡ 1 = ap length alone in omega arith);
    }

-- Without letters nothing is entered.
pub none_told : (n c : ℕ) (row : List Letter) (old : List LieutenantTree) → ((j : ℕ) (t : LieutenantTree) → slice_get old j ≡ Some t → IsDueIn n c row t) → row ≡ [] → AreEach (IsTold row) old old
none_told n c row old due none = record {
  count = refl;
  each = λ j t u was now.
      let same : u ≡ t = same_tree (sym now ∙ was) in
      rw same (record {
        same = record { generals = refl; bound = refl; commander = refl; general = refl };
        filled = λ M filled. none_heard t row M (due j t was).kind none filled;
      });
}

-- The round of the letters.
pub round_told : (n c : ℕ) (row : List Letter) (shape : Shape) (inside item : Letter) → AreOfCampaign n c row → inside ≡ item → item ≡ get_or row 0 item → 0 < length row → shape ≡ inside.outbox.relay.shape → shape.round ≡ round_of row
round_told n c row shape inside item due view at some same =
    let there : slice_get row 0 ≡ Some item = slice_get_read row (length row) 0 item refl some at in
    ap (λ (s : Shape). s.round) (same ∙ (ap (λ (l : Letter). l.outbox.relay.shape) view ∙ due 0 item there))

-- How many generals are below the next one.
pub below_more : (x : ℕ) (w : List ℕ) (below : ℕ) → on w x ≡ false → below ≡ length (others x w) → below + 1 ≡ length (others (x + 1) w)
below_more x w below off e =
    let more : length (others (x + 1) w) ≡ length (others x w) + cond {A = ℕ} (on w x) 0 1 = others_length_more w x in
    let one : cond {A = ℕ} (on w x) 0 1 ≡ 1 = ap (λ (q : Bool). cond {A = ℕ} q 0 1) off in
    omega arith

pub below_same : (x : ℕ) (w : List ℕ) (below : ℕ) → on w x ≡ true → below ≡ length (others x w) → below ≡ length (others (x + 1) w)
below_same x w below there e =
    let more : length (others (x + 1) w) ≡ length (others x w) + cond {A = ℕ} (on w x) 0 1 = others_length_more w x in
    let none : cond {A = ℕ} (on w x) 0 1 ≡ 0 = ap (λ (q : Bool). cond {A = ℕ} q 0 1) there in
    omega arith

pub ends_at : (row : List Letter) (k : ℕ) (f : LabelPrefix) (x y : ℕ) (old new : List LieutenantTree) → x ≡ y → AreEach (IsToldUpTo row k f x) old new → AreEach (IsToldUpTo row k f y) old new
ends_at row k f x y old new e h = subst (λ (z : ℕ). AreEach (IsToldUpTo row k f z) old new) e h
