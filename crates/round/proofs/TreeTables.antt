-- The trees are found by their lieutenants.
use Rattle.std.proofs.Common.{◌≡◌, ◌≢◌, ℕ, zero, suc, ◌+◌, ◌<◌, ◌≤◌, List, [], ◌∷◌, ◌++◌, length, take, get_or, set, Bool, true, false, ◌||◌, refl, sym, ap, ◌∙◌, Some, arith, ⊎_elim, get_or-set_same, get_or-set_other, length-set, replicate}
use Rattle.std.specs.Prelude.{slice_get, slice_index, slice_index_or, ◌==◌}
use Rattle.std.proofs.lemmas.Bool.{eq-eqb, ne_eqb, true≢false, cases_Bool}
use Rattle.std.proofs.lemmas.Bool.Decides.{eqb_tells}
use Rattle.std.proofs.lemmas.List.{take_more, get_or-replicate}
use Rattle.std.proofs.lemmas.Option.{slice_get-get_or, slice_get_read, slice_get_within}
use Rattle.label.specs.Labels.{on, others}
use Rattle.label.proofs.Bounds.{others_here}
use Rattle.label.proofs.Counting.{on-push, others-on}
use Rattle.tree.specs.LieutenantTree.{LieutenantTree}
use Rattle.round.specs.Letters.{Letter}
use Rattle.round.specs.Delivery.{AreApart, AreEach, AreTellers, AreTellersOf, IsDueIn, FillsFromTo, IsRoute, IsToldUnder, AreTreeIndices, IsWalk, Tellers, first_under, past_under}
use Rattle.round.specs.declared.front.LabelPrefix.{LabelPrefix}
use Rattle.round.proofs.Lists.{some_same, get_set, get_unset}
use Rattle.label.proofs.Counts.{on-get}
use Rattle.round.proofs.Striking.{named, take_get, take_others, take_twice}
use Rattle.round.proofs.Together.{IsToldUpTo, own_front, own_tellers, own_walk, same_up}
use Rattle.std.proofs.Math.Bool.{or-true}

or_false : (b : Bool) → (b || false) ≡ b
or_false true = refl
or_false false = refl

-- The table is filled, one tree after another.
pub record AreTreeIndicesUpTo (trees : List LieutenantTree) (i : ℕ) (table : List ℕ) : Type 0 where
  pub long : length table ≡ 13
  pub found : (j : ℕ) (t : LieutenantTree) → j < i → slice_get trees j ≡ Some t → slice_index table t.general ≡ j
  pub only : (g : ℕ) (t : LieutenantTree) → g < 13 → slice_get trees (slice_index table g) ≡ Some t → t.general ≡ g

pub table_next : (trees : List LieutenantTree) (i : ℕ) (table : List ℕ) (t : LieutenantTree) (g : ℕ) → AreApart trees → AreTreeIndicesUpTo trees i table → i < length trees → t ≡ get_or trees i t → g ≡ t.general → g < 13 → AreTreeIndicesUpTo trees (i + 1) (set table g i)
table_next trees i table t g apart h lt at eg small =
    let here : slice_get trees i ≡ Some t = slice_get_read trees (length trees) i t refl lt at in
    let room : g < length table = let l = h.long in omega arith in
    let now : slice_index (set table g i) g ≡ i = get_or-set_same table g i 0 room in
    record {
      long = length-set table g i ∙ h.long;
      found = λ j u less there. ⊎_elim
          (λ (q : (u.general == g ≡ true) × (u.general ≡ g)).
          ap (λ (x : ℕ). slice_index (set table g i) x) q.1 ∙ (now ∙ sym (apart j i u t there here (q.1 ∙ eg))))
          (λ (q : (u.general == g ≡ false) × (u.general ≢ g)).
          let ne : j ≢ i = λ e. q.1 (ap (λ (v : LieutenantTree). v.general) (some_same (sym there ∙ (ap (λ (m : ℕ). slice_get trees m) e ∙ here))) ∙ sym eg) in
          get_or-set_other table g u.general i 0 q.1 ∙ h.found j u (omega arith) there)
          (eqb_tells u.general g);
      only = λ x u within there. ⊎_elim
          (λ (q : (x == g ≡ true) × (x ≡ g)).
          let at_i : slice_get trees i ≡ Some u = sym (ap (λ (m : ℕ). slice_get trees m) (ap (λ (y : ℕ). slice_index (set table g i) y) q.1 ∙ now)) ∙ there in
          ap (λ (v : LieutenantTree). v.general) (some_same (sym at_i ∙ here)) ∙ (sym eg ∙ sym q.1))
          (λ (q : (x == g ≡ false) × (x ≢ g)).
          h.only x u within (sym (ap (λ (m : ℕ). slice_get trees m) (get_or-set_other table g x i 0 q.1)) ∙ there))
          (eqb_tells x g);
    }

pub table_from : (trees : List LieutenantTree) (none : ℕ) → none ≡ length trees → AreTreeIndicesUpTo trees 0 (replicate 13 none)
table_from trees none e = record {
  long = refl;
  found = λ j t lt there. absurd (omega arith);
  only = λ g t within there.
      let past : slice_index (replicate 13 none) g ≡ none = get_or-replicate 13 g none 0 within in
      let inside = slice_get_within trees (slice_index (replicate 13 none) g) t there in
      absurd (omega arith);
}

pub table_all : (trees : List LieutenantTree) (i : ℕ) (table : List ℕ) → AreTreeIndicesUpTo trees i table → length trees ≤ i → AreTreeIndices trees table
table_all trees i table h all = record {
  long = h.long;
  found = λ j t there. h.found j t (let l = slice_get_within trees j t there in omega arith) there;
  only = h.only;
}

-- The lieutenants of the trees stay the same.
pub table_stays : (old new : List LieutenantTree) (table : List ℕ) → AreTreeIndices old table → length new ≡ length old → ((j : ℕ) (t u : LieutenantTree) → slice_get old j ≡ Some t → slice_get new j ≡ Some u → u.general ≡ t.general) → AreTreeIndices new table
table_stays old new table h long same = record {
  long = h.long;
  found = λ j u there.
      let was = before j u there in
      ap (λ (x : ℕ). slice_index table x) (same j (get_or old j u) u was there) ∙ h.found j (get_or old j u) was;
  only = λ g u within there.
      let was = before (slice_index table g) u there in
      same (slice_index table g) (get_or old (slice_index table g) u) u was there ∙ h.only g (get_or old (slice_index table g) u) within was;
}
  where
    before : (j : ℕ) (u : LieutenantTree) → slice_get new j ≡ Some u → slice_get old j ≡ Some (get_or old j u)
    before j u there = slice_get-get_or old j u (let l = slice_get_within new j u there in omega arith)

-- States that the trees of the lieutenants in `names` are filled, and the others are as before.
pub record AreNamedTold (row : List Letter) (k : ℕ) (f : LabelPrefix) (names : List ℕ) (old new : List LieutenantTree) : Type 0 where
  pub count : length new ≡ length old
  pub general : (j : ℕ) (t u : LieutenantTree) → slice_get old j ≡ Some t → slice_get new j ≡ Some u → u.general ≡ t.general
  pub told : (j : ℕ) (t u : LieutenantTree) → slice_get old j ≡ Some t → slice_get new j ≡ Some u → on names t.general ≡ true → IsToldUnder row k f t u
  pub left : (j : ℕ) (t u : LieutenantTree) → slice_get old j ≡ Some t → slice_get new j ≡ Some u → on names t.general ≡ false → u ≡ t

pub named_none : (row : List Letter) (k : ℕ) (f : LabelPrefix) (old : List LieutenantTree) → AreNamedTold row k f [] old old
named_none row k f old = record {
  count = refl;
  general = λ j t u was now. ap (λ (v : LieutenantTree). v.general) (some_same (sym now ∙ was));
  told = λ j t u was now it. absurd (true≢false (sym it));
  left = λ j t u was now off. some_same (sym now ∙ was);
}

-- One more name is considered, which is not this lieutenant's.
unnamed : (names : List ℕ) (x y : ℕ) → x ≢ y → on (names ++ x ∷ []) y ≡ on names y
unnamed names x y ne = on-push names x y ∙ rw (ne_eqb x y ne) (or_false (on names y))

-- A name is not among those before it.
name_is_new : (n x i count : ℕ) (w names : List ℕ) → take count names ≡ others n w → i < count → i < length names → x ≡ get_or names i 0 → on (take i names) x ≡ false
name_is_new n x i count w names all lt room at =
    let there : slice_get names i ≡ Some x = slice_get-get_or names i 0 room ∙ ap Some (sym at) in
    let here : slice_get (others n w) i ≡ Some x = sym (ap (λ xs. slice_get xs i) all) ∙ (take_get count i names lt ∙ there) in
    let below : take i names ≡ others x w = sym (take_twice count i names (omega arith)) ∙ (ap (take i) all ∙ take_others n i x w here) in
    ⊎_elim
    (λ (q : on (take i names) x ≡ true). let l = (others-on x w x (sym (ap (λ xs. on xs x) below) ∙ q)).0 in absurd (omega arith))
    (λ (q : on (take i names) x ≡ false). q)
    (cases_Bool (on (take i names) x))

module _ (n : ℕ) (row : List Letter) (places : List ℕ) (k : ℕ) (f : LabelPrefix) (old : List LieutenantTree) (route : IsRoute n row places k f old) (table : List ℕ) (s : AreTreeIndices old table) (tellers : Tellers) (all : AreTellers row n f n tellers) (i x place : ℕ) (lt : i < tellers.count) (at : x ≡ get_or tellers.generals i 0) (found : place ≡ slice_index table x) where
  room : i < length tellers.generals
  room = let a = all.few in let l = all.long in let m = route.few in omega arith

  more : take (i + 1) tellers.generals ≡ take i tellers.generals ++ x ∷ []
  more = take_more tellers.generals i 0 room ∙ ap (λ (y : ℕ). take i tellers.generals ++ y ∷ []) (sym at)

  fresh : on (take i tellers.generals) x ≡ false
  fresh = name_is_new n x i tellers.count route.w tellers.generals (all.names route.c route.w route.front) lt room at

  pub name_within : x < n
  name_within = (named n x x i tellers.count route.w tellers.generals (all.names route.c route.w route.front) lt room at).within

  mark : slice_index_or f.on x false ≡ false
  mark = route.front.marks x name_within ∙ (named n x x i tellers.count route.w tellers.generals (all.names route.c route.w route.front) lt room at).off

  -- A general without a tree is skipped.
  pub named_skip : (new : List LieutenantTree) → AreNamedTold row k f (take i tellers.generals) old new → length new ≤ place → AreNamedTold row k f (take (i + 1) tellers.generals) old new
  named_skip new h past = rw more (record {
    count = h.count;
    general = h.general;
    told = λ j t u was now it. h.told j t u was now (sym (unnamed (take i tellers.generals) x t.general (away j t was)) ∙ it);
    left = λ j t u was now off. h.left j t u was now (sym (unnamed (take i tellers.generals) x t.general (away j t was)) ∙ off);
  })
    where
      away : (j : ℕ) (t : LieutenantTree) → slice_get old j ≡ Some t → x ≢ t.general
      away j t was e =
          let here : slice_index table x ≡ j = ap (λ (y : ℕ). slice_index table y) e ∙ s.found j t was in
          let inside = slice_get_within old j t was in
          let l = h.count in
          omega arith

  -- The next general's tree is as before.
  pub record IsNext (new : List LieutenantTree) (t : LieutenantTree) : Type 0 where
    pub here : slice_get new place ≡ Some t
    pub was : slice_get old place ≡ Some t
    pub own : t.general ≡ x
    pub off : slice_index_or f.on t.general false ≡ false
    pub due : IsDueIn n route.c row t
    pub walk : IsWalk t row places k f
    pub tellers_of : AreTellersOf row t f i tellers.rows

  pub is_next : (new : List LieutenantTree) (t : LieutenantTree) → AreNamedTold row k f (take i tellers.generals) old new → place < length new → t ≡ get_or new place t → IsNext new t
  is_next new t h inside read =
      let small : x < 13 = let a = name_within in let b = route.few in omega arith in
      let here : slice_get new place ≡ Some t = slice_get_read new (length new) place t refl inside read in
      let first : slice_get old place ≡ Some (get_or old place t) = slice_get-get_or old place t (let l = h.count in omega arith) in
      let own : (get_or old place t).general ≡ x = s.only x (get_or old place t) small (sym (ap (λ (j : ℕ). slice_get old j) found) ∙ first) in
      let same : t ≡ get_or old place t = h.left place (get_or old place t) t first here (ap (on (take i tellers.generals)) own ∙ fresh) in
      let was : slice_get old place ≡ Some t = first ∙ ap Some (sym same) in
      let own_t : t.general ≡ x = ap (λ (v : LieutenantTree). v.general) same ∙ own in
      let mark_t : slice_index_or f.on t.general false ≡ false = ap (λ (y : ℕ). slice_index_or f.on y false) own_t ∙ mark in
      let d = route.due place t was in
      record {
        here = here;
        was = was;
        own = own_t;
        off = mark_t;
        due = d;
        walk = own_walk n row places k f old route t d mark_t route.w (own_front n route.c row f route.w t d route.front);
        tellers_of = record {
          count = tellers.count;
          generals = tellers.generals;
          all = own_tellers n row f tellers t d.generals all;
          within = lt;
          own = sym at ∙ sym own_t;
        };
      }

  pub named_next : (new : List LieutenantTree) (t u : LieutenantTree) → AreNamedTold row k f (take i tellers.generals) old new → place < length new → t ≡ get_or new place t →
      ((letters : List Letter) (posts : List ℕ) → IsWalk t letters posts k f → AreTellersOf letters t f i tellers.rows → FillsFromTo t letters k (first_under t f k) (past_under t f k) u) → AreNamedTold row k f (take (i + 1) tellers.generals) old (set new place u)
  named_next new t u h inside read told =
      let next = is_next new t h inside read in
      let filled = told row places next.walk next.tellers_of in
      rw more (record {
        count = length-set new place u ∙ h.count;
        general = λ j a b was now. ⊎_elim
            (λ (q : (j == place ≡ true) × (j ≡ place)).
            ap (λ (v : LieutenantTree). v.general) (last j b q.1 now) ∙ (filled.same.general ∙ ap (λ (v : LieutenantTree). v.general) (first next.was j a q.1 was)))
            (λ (q : (j == place ≡ false) × (j ≢ place)). h.general j a b was (sym (get_unset new place j u q.1) ∙ now))
            (eqb_tells j place);
        told = λ j a b was now it. ⊎_elim
            (λ (q : (j == place ≡ true) × (j ≡ place)).
            rw (last j b q.1 now, sym (first next.was j a q.1 was)) (record { on = λ e. absurd (true≢false (sym e ∙ next.off)); off = λ e. filled }))
            (λ (q : (j == place ≡ false) × (j ≢ place)). h.told j a b was (sym (get_unset new place j u q.1) ∙ now) (sym (unnamed (take i tellers.generals) x a.general (elsewhere j a was q.1)) ∙ it))
            (eqb_tells j place);
        left = λ j a b was now no_name. ⊎_elim
            (λ (q : (j == place ≡ true) × (j ≡ place)).
            let same : x ≡ a.general = sym next.own ∙ ap (λ (v : LieutenantTree). v.general) (first next.was j a q.1 was) in
            let named_now : on (take i tellers.generals ++ x ∷ []) a.general ≡ true = on-push (take i tellers.generals) x a.general ∙ rw (eq-eqb x a.general same) (or-true (on (take i tellers.generals) a.general)) in
            absurd (true≢false (sym named_now ∙ no_name)))
            (λ (q : (j == place ≡ false) × (j ≢ place)). h.left j a b was (sym (get_unset new place j u q.1) ∙ now) (sym (unnamed (take i tellers.generals) x a.general (elsewhere j a was q.1)) ∙ no_name))
            (eqb_tells j place);
      })
    where
      last : (j : ℕ) (b : LieutenantTree) → j ≡ place → slice_get (set new place u) j ≡ Some b → b ≡ u
      last j b e now = some_same (sym now ∙ (ap (λ (m : ℕ). slice_get (set new place u) m) e ∙ get_set new place u inside))

      first : slice_get old place ≡ Some t → (j : ℕ) (a : LieutenantTree) → j ≡ place → slice_get old j ≡ Some a → t ≡ a
      first there j a e was = some_same (sym there ∙ (sym (ap (λ (m : ℕ). slice_get old m) e) ∙ was))

      elsewhere : (j : ℕ) (a : LieutenantTree) → slice_get old j ≡ Some a → j ≢ place → x ≢ a.general
      elsewhere j a was ne e = ne (sym (s.found j a was) ∙ (sym (ap (λ (y : ℕ). slice_index table y) e) ∙ sym found))

-- All generals off the label were considered.
in_others : (n p : ℕ) (w : List ℕ) → p < n → on w p ≡ false → on (others n w) p ≡ true
in_others n p w lt off = on-get (others n w) (length (others p w)) p (others_here n w (length (others p w)) p lt off refl)

not_in_others : (n p : ℕ) (w : List ℕ) → on w p ≡ true → on (others n w) p ≡ false
not_in_others n p w there = ⊎_elim
    (λ (q : on (others n w) p ≡ true). absurd (true≢false (sym there ∙ (others-on n w p q).1)))
    (λ (q : on (others n w) p ≡ false). q)
    (cases_Bool (on (others n w) p))

pub named_all : (n : ℕ) (row : List Letter) (places : List ℕ) (k : ℕ) (f : LabelPrefix) (old new : List LieutenantTree) (route : IsRoute n row places k f old) (tellers : Tellers) → AreTellers row n f n tellers → AreNamedTold row k f (take tellers.count tellers.generals) old new → AreEach (IsToldUnder row k f) old new
named_all n row places k f old new route tellers all h = record {
  count = h.count;
  each = λ j t u was now.
      let d = route.due j t was in
      let within : t.general < n = let b = d.kind.general in let e = d.generals in omega arith in
      let whole : on (take tellers.count tellers.generals) t.general ≡ on (others n route.w) t.general = ap (λ xs. on xs t.general) (all.names route.c route.w route.front) in
      let standing : slice_index_or f.on t.general false ≡ on route.w t.general = route.front.marks t.general within in
      record {
        on = λ q. h.left j t u was now (whole ∙ not_in_others n t.general route.w (sym standing ∙ q));
        off = λ q. (h.told j t u was now (whole ∙ in_others n t.general route.w within (sym standing ∙ q))).off q;
      };
}

-- The table stays right during the walk.
pub table_up : (n : ℕ) (row : List Letter) (places : List ℕ) (k : ℕ) (f : LabelPrefix) (old cur : List LieutenantTree) (route : IsRoute n row places k f old) (x : ℕ) → AreEach (IsToldUpTo row k f x) old cur → (table : List ℕ) → AreTreeIndices old table → AreTreeIndices cur table
table_up n row places k f old cur route x told table h =
    table_stays old cur table h told.count (λ j t u was now. (same_up n route.c row k f x route.w t u (route.due j t was) route.front (told.each j t u was now)).general)

-- A single tree is different from all others.
pub alone_apart : (t : LieutenantTree) → AreApart (t ∷ [])
alone_apart t zero zero a b first last e = refl
alone_apart t zero (suc j) a b first last e = cc
alone_apart t (suc i) zero a b first last e = cc
alone_apart t (suc i) (suc j) a b first last e = cc
