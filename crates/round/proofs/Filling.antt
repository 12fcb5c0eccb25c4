-- The trees of all lieutenants are filled round by round.
use Rattle.std.proofs.Common.{◌≡◌, ◌≢◌, ℕ, zero, suc, ◌+◌, ◌-◌, ◌<◌, ◌≤◌, List, [], ◌∷◌, ◌++◌, length, take, get_or, Bool, true, false, refl, sym, ap, subst, ◌∙◌, Some, None, arith, ⊎_elim, ◌⊎◌, inl, inr, length-append}
use Rattle.std.specs.Prelude.{slice_get, slice_index, ◌==◌, nat_lt, if◌then◌else◌}
use Rattle.std.proofs.lemmas.Bool.{ltb-true, ltb-false}
use Rattle.std.proofs.lemmas.Bool.Decides.{eqb_tells}
use Rattle.std.proofs.lemmas.Option.{slice_get_within, slice_get_read, slice_get-get_or}
use Rattle.label.specs.Oral.{Messages}
use Rattle.label.proofs.Listing.{proved_labels_are_exact}
use Rattle.tree.specs.LieutenantTree.{LieutenantTree, IsFilled, SameCampaign, silence}
use Rattle.round.specs.Scenario.{Scenario, IsScenario}
use Rattle.round.specs.Letters.{Letter, messages, told_by, letter_of}
use Rattle.round.specs.Origin.{AreLettersOf}
use Rattle.round.specs.Told.{AreOfCampaign, IsTreeOf, AreDue, ToldSeen, WasTold, told_now, heard_also, round_of, lieutenant_at}
use Rattle.round.proofs.Delivering.{levels-same, heard_here, heard_other}
use Rattle.round.specs.Delivery.{AreApart, AreEach, AreDueIn, IsTold}
use Rattle.std.proofs.lemmas.List.{get_or_past}

get-end : {A : Type 0} (xs : List A) (x d : A) → get_or (xs ++ x ∷ []) (length xs) d ≡ x
get-end [] x d = refl
get-end (y ∷ xs) x d = get-end xs x d

get-other : {A : Type 0} (xs : List A) (x d : A) (i : ℕ) → (i ≡ length xs → ⊥) → get_or (xs ++ x ∷ []) i d ≡ get_or xs i d
get-other [] x d zero ne = absurd (ne refl)
get-other [] x d (suc i) ne = refl
get-other (y ∷ xs) x d zero ne = refl
get-other (y ∷ xs) x d (suc i) ne = get-other xs x d i (λ e. ne (ap suc e))

messages-now : (before : List (List Letter)) (row : List Letter) (w : List ℕ) (p : ℕ) → length w ≡ suc (length before) → messages (before ++ row ∷ []) w p ≡ told_now row w p
unfolding messages
messages-now before row w p e =
    let front : length w - 1 ≡ length before = omega arith in
    ap (λ ls. told_by (letter_of ls (slice_index w (length w - 1))) (take (length w - 1) w) p) (ap (λ (i : ℕ). get_or (before ++ row ∷ []) i []) front ∙ get-end before row [])

pub messages-past : (before : List (List Letter)) (row : List Letter) (w : List ℕ) (p : ℕ) → 0 < length w → (length w ≡ suc (length before) → ⊥) → messages (before ++ row ∷ []) w p ≡ messages before w p
unfolding messages
messages-past before row w p some ne =
    ap (λ ls. told_by (letter_of ls (slice_index w (length w - 1))) (take (length w - 1) w) p) (get-other before row [] (length w - 1) (λ e. ne (omega arith)))

-- Of a round that is not closed there is no message.
pub messages-none : (before : List (List Letter)) (w : List ℕ) (p : ℕ) → length before ≤ length w - 1 → messages before w p ≡ None
unfolding messages
messages-none before w p le = ap (λ ls. told_by (letter_of ls (slice_index w (length w - 1))) (take (length w - 1) w) p) (get_or_past before (length w - 1) [] le)

-- One more round is delivered.
heard_more : (before : List (List Letter)) (row : List Letter) (w : List ℕ) (p : ℕ) → 0 < length w → ((i : ℕ) (l : Letter) → slice_get row i ≡ Some l → l.round ≡ suc (length before)) → heard_also (messages before) row w p ≡ messages (before ++ row ∷ []) w p
heard_more before [] w p some due = ⊎_elim
    (λ (q : (length w == suc (length before) ≡ true) × (length w ≡ suc (length before))).
    heard_other (messages before) [] w p (λ e. absurd (omega arith)) ∙ (messages-none before w p (let e = q.1 in omega arith) ∙ sym (messages-now before [] w p q.1)))
    (λ (q : (length w == suc (length before) ≡ false) × (length w ≢ suc (length before))).
    heard_other (messages before) [] w p (λ e. absurd (omega arith)) ∙ sym (messages-past before [] w p some q.1))
    (eqb_tells (length w) (suc (length before)))
heard_more before (l ∷ row) w p some due =
    let round : l.round ≡ suc (length before) = due 0 l refl in
    ⊎_elim
    (λ (q : (length w == suc (length before) ≡ true) × (length w ≡ suc (length before))).
    heard_here (messages before) (l ∷ row) w p (q.1 ∙ sym round) ∙ sym (messages-now before (l ∷ row) w p q.1))
    (λ (q : (length w == suc (length before) ≡ false) × (length w ≢ suc (length before))).
    heard_other (messages before) (l ∷ row) w p (λ e. q.1 (e ∙ round)) ∙ sym (messages-past before (l ∷ row) w p some q.1))
    (eqb_tells (length w) (suc (length before)))

-- One tree after this round.
tree_more : (s : Scenario) (before : List (List Letter)) (row : List Letter) (g : ℕ) (t u : LieutenantTree) → IsScenario s → IsTreeOf s before g t → AreLettersOf s (suc (length before)) row → SameCampaign t u → ((M : Messages) → IsFilled t M → IsFilled u (heard_also M row)) →
    IsTreeOf s (before ++ row ∷ []) g u
tree_more s before row g t u is h due same fill = record {
  generals = same.generals ∙ h.generals;
  bound = same.bound ∙ h.bound;
  commander = same.commander ∙ h.commander;
  general = same.general ∙ h.general;
  within = h.within;
  lieutenant = h.lieutenant;
  filled = fill (messages before) h.filled ∙ levels-same u.generals u.commander u.general (heard_also (messages before) row) (messages (before ++ row ∷ [])) 1 (u.bound + 1) (λ j i w le at.
      let commander : u.commander < u.generals = rw (same.commander, h.commander, same.generals, h.generals) is.commander in
      let general : u.general < u.generals = rw (same.general, h.general, same.generals, h.generals) h.within in
      let ne : u.general ≢ u.commander = λ e. h.lieutenant (sym (same.general ∙ h.general) ∙ (e ∙ (same.commander ∙ h.commander))) in
      let long : length w ≡ j = (proved_labels_are_exact.only u.generals u.commander u.general j i w commander general ne at).2 in
      heard_more before row w u.general (omega arith) (λ k l there. (due k l there).0));
}

round_is : (s : Scenario) (rounds : ℕ) (row : List Letter) → AreLettersOf s (suc rounds) row → (i : ℕ) (l : Letter) → slice_get row i ≡ Some l → round_of row ≡ suc rounds
round_is s rounds [] due i l at = cc
round_is s rounds (x ∷ row) due i l at = (due 0 x refl).0

-- The letters of the round may be entered into a tree.
pub tree_due : (s : Scenario) (before : List (List Letter)) (row : List Letter) (g rounds : ℕ) (t : LieutenantTree) → IsTreeOf s before g t → AreLettersOf s (suc rounds) row → rounds ≤ s.bound → AreDue t row
tree_due s before row g rounds t h due left = record {
  round = at_most row due;
  letters = λ i l at.
      (due i l at).1 ∙ (λ j. record { generals = sym h.generals j; commander = sym h.commander j; general = l.general; round = sym (round_is s rounds row due i l at) j });
}
  where
    at_most : (row : List Letter) → AreLettersOf s (suc rounds) row → round_of row < t.bound + 2
    at_most [] due = omega arith
    at_most (x ∷ row) due = (let e = (due 0 x refl).0 in let b = h.bound in omega arith)

-- The letters are of one round of the campaign.
pub letters_due : (s : Scenario) (rounds : ℕ) (row : List Letter) → AreLettersOf s (suc rounds) row → AreOfCampaign s.generals s.commander row
letters_due s rounds row due = λ i l at. (due i l at).1 ∙ (λ j. record { generals = s.generals; commander = s.commander; general = l.general; round = sym (round_is s rounds row due i l at) j })

pub told_more : (s : Scenario) (before : List (List Letter)) (row : List Letter) (h : ToldSeen) (trees : List LieutenantTree) → IsScenario s → WasTold s before h → AreLettersOf s (suc h.rounds) row → AreEach (IsTold row) h.trees trees →
    WasTold s (before ++ row ∷ []) (record { rounds = h.rounds + 1; trees = trees })
told_more s before row h trees is told due filled =
    let due' : AreLettersOf s (suc (length before)) row = subst (λ (k : ℕ). AreLettersOf s (suc k) row) told.rounds due in
    record {
      rounds = (let e = told.rounds in let l = length-append before (row ∷ []) in omega arith);
      count = (let e = told.count in let f = filled.count in omega arith);
      trees = λ j u now.
          let inside : j < length trees = slice_get_within trees j u now in
          let less : j < length h.trees = let f = filled.count in omega arith in
          let was : slice_get h.trees j ≡ Some (get_or h.trees j u) = slice_get-get_or h.trees j u less in
          let both = filled.each j (get_or h.trees j u) u was now in
          tree_more s before row (lieutenant_at s.commander j) (get_or h.trees j u) u is (told.trees j (get_or h.trees j u) was) due' both.same both.filled;
    }

-- Before the first round there are no messages.
none_said : (w : List ℕ) (p : ℕ) → silence w p ≡ messages [] w p
none_said w p = sym (messages-none [] w p (omega arith))

pub tree_new : (s : Scenario) (g : ℕ) (t : LieutenantTree) → t.generals ≡ s.generals → t.bound ≡ s.bound → t.commander ≡ s.commander → t.general ≡ g → g < s.generals → g ≢ s.commander → IsFilled t silence → IsTreeOf s [] g t
tree_new s g t eg eb ec ep within ne filled = record {
  generals = eg;
  bound = eb;
  commander = ec;
  general = ep;
  within = within;
  lieutenant = ne;
  filled = filled ∙ levels-same t.generals t.commander t.general silence (messages []) 1 (t.bound + 1) (λ j i w le at. none_said w t.general);
}

-- States that these are the empty trees of the first `i` lieutenants.
pub record AreSilent (s : Scenario) (i : ℕ) (all : List LieutenantTree) : Type 0 where
  pub count : length all ≡ i
  pub trees : (j : ℕ) (t : LieutenantTree) → slice_get all j ≡ Some t → IsTreeOf s [] (lieutenant_at s.commander j) t

pub silent_none : (s : Scenario) → AreSilent s 0 []
silent_none s = record { count = refl; trees = λ j t at. cc }

get_push : (xs : List LieutenantTree) (x t : LieutenantTree) (j : ℕ) → slice_get (xs ++ x ∷ []) j ≡ Some t → (slice_get xs j ≡ Some t) ⊎ ((j ≡ length xs) × (x ≡ t))
get_push [] x t zero e = inr (refl, cc)
get_push [] x t (suc j) e = cc
get_push (y ∷ xs) x t zero e = inl e
get_push (y ∷ xs) x t (suc j) e = ⊎_elim (λ (q : slice_get xs j ≡ Some t). inl q) (λ (q : (j ≡ length xs) × (x ≡ t)). inr (ap suc q.0, q.1)) (get_push xs x t j e)

pub silent_more : (s : Scenario) (i g : ℕ) (trees : List LieutenantTree) (t : LieutenantTree) → AreSilent s i trees → g ≡ lieutenant_at s.commander i → IsTreeOf s [] g t → AreSilent s (i + 1) (trees ++ t ∷ [])
silent_more s i g trees t h eg new = record {
  count = (let l = length-append trees (t ∷ []) in let e = h.count in omega arith);
  trees = λ j u at. ⊎_elim
      (λ (q : slice_get trees j ≡ Some u). h.trees j u q)
      (λ (q : (j ≡ length trees) × (t ≡ u)).
      subst (λ (x : LieutenantTree). IsTreeOf s [] (lieutenant_at s.commander j) x) q.1 (subst (λ (k : ℕ). IsTreeOf s [] k t) (eg ∙ ap (λ (k : ℕ). lieutenant_at s.commander k) (sym (q.0 ∙ h.count))) new))
      (get_push trees t u j at);
}

pub told_none : (s : Scenario) (i : ℕ) (trees : List LieutenantTree) → AreSilent s i trees → i + 1 ≡ s.generals → WasTold s [] (record { rounds = 0; trees = trees })
told_none s i trees h e = record { rounds = refl; count = (let c = h.count in omega arith); trees = h.trees }

-- A lieutenant is not the commander.
pub lieutenant_other : (c i : ℕ) → lieutenant_at c i ≢ c
lieutenant_other c i = by (nat_lt i c) refl
  where
    by : (b : Bool) → nat_lt i c ≡ b → (if b then i else i + 1) ≢ c
    by true e = λ h. absurd (let l = ltb-true i c e in omega arith)
    by false e = λ h. absurd (let l = ltb-false i c e in omega arith)

pub lieutenant_within : (c i n : ℕ) → i + 1 < n → lieutenant_at c i < n
lieutenant_within c i n lt = by (nat_lt i c)
  where
    by : (b : Bool) → (if b then i else i + 1) < n
    by true = omega arith
    by false = omega arith

lieutenants_differ : (c i j : ℕ) → lieutenant_at c i ≡ lieutenant_at c j → i ≡ j
lieutenants_differ c i j same = by (nat_lt i c) refl (nat_lt j c) refl same
  where
    by : (a : Bool) → nat_lt i c ≡ a → (b : Bool) → nat_lt j c ≡ b → (if a then i else i + 1) ≡ (if b then j else j + 1) → i ≡ j
    by true ea true eb e = e
    by true ea false eb e = (let l = ltb-true i c ea in let m = ltb-false j c eb in omega arith)
    by false ea true eb e = (let l = ltb-false i c ea in let m = ltb-true j c eb in omega arith)
    by false ea false eb e = omega arith

-- No two trees belong to the same lieutenant.
pub trees_apart : (s : Scenario) (before : List (List Letter)) (h : ToldSeen) → WasTold s before h → AreApart h.trees
trees_apart s before h told i j t u first last e =
    lieutenants_differ s.commander i j (sym (told.trees i t first).general ∙ (e ∙ (told.trees j u last).general))

-- The tree of a lieutenant.
pub own_tree : (s : Scenario) (before : List (List Letter)) (h : ToldSeen) (i g : ℕ) (t : LieutenantTree) → WasTold s before h → i < length h.trees → t ≡ get_or h.trees i t → lieutenant_at s.commander i ≡ g → IsTreeOf s before g t
own_tree s before h i g t told lt at is =
    subst (λ (k : ℕ). IsTreeOf s before k t) is (told.trees i t (slice_get_read h.trees (length h.trees) i t refl lt at))

-- A lieutenant's index is within the list of trees.
pub place_within : (c i g n m : ℕ) → g < n → c < n → lieutenant_at c i ≡ g → m + 1 ≡ n → i < m
place_within c i g n m within inside is count = by (nat_lt i c) refl is
  where
    by : (b : Bool) → nat_lt i c ≡ b → (if b then i else i + 1) ≡ g → i < m
    by true e h = (let l = ltb-true i c e in omega arith)
    by false e h = omega arith

-- The letters of the round may be entered into all trees.
pub trees_due : (s : Scenario) (before : List (List Letter)) (row : List Letter) (h : ToldSeen) → IsScenario s → WasTold s before h → AreLettersOf s (suc h.rounds) row → h.rounds ≤ s.bound → AreDueIn s.generals s.commander row h.trees
trees_due s before row h is told due left j t at =
    let o = told.trees j t at in
    record {
      kind = record {
        few = rw o.generals is.few;
        commander = rw (o.commander, o.generals) is.commander;
        general = rw (o.general, o.generals) o.within;
        lieutenant = rw (o.general, o.commander) o.lieutenant;
        small = (let b = o.bound in let r = is.rounds in omega arith);
      };
      generals = o.generals;
      commander = o.commander;
      due = tree_due s before row (lieutenant_at s.commander j) h.rounds t o due left;
    }

-- The tree as the code finds it.
pub looked_up : (s : Scenario) (before : List (List Letter)) (h now : ToldSeen) (commander place from g : ℕ) (t : LieutenantTree) → IsScenario s → WasTold s before now → h ≡ now → commander ≡ s.commander → lieutenant_at commander place ≡ g → g < s.generals → from ≡ place → t ≡ get_or h.trees from t →
    (lieutenant_at s.commander place ≡ g) × (place < length h.trees) × (t ≡ get_or h.trees place t)
looked_up s before h now commander place from g t is told view ec there within ef at =
    let here : lieutenant_at s.commander place ≡ g = ap (λ (k : ℕ). lieutenant_at k place) (sym ec) ∙ there in
    let count : length h.trees + 1 ≡ s.generals = ap (λ (x : ToldSeen). length x.trees + 1) view ∙ told.count in
    (here, place_within s.commander place g s.generals (length h.trees) within is.commander here count, at ∙ ap (λ (i : ℕ). get_or h.trees i t) ef)

pub looked_tree : (s : Scenario) (before : List (List Letter)) (h now : ToldSeen) (commander place from g : ℕ) (t : LieutenantTree) → IsScenario s → WasTold s before now → h ≡ now → commander ≡ s.commander → lieutenant_at commander place ≡ g → g < s.generals → from ≡ place → t ≡ get_or h.trees from t → IsTreeOf s before g t
looked_tree s before h now commander place from g t is told view ec there within ef at =
    let o = looked_up s before h now commander place from g t is told view ec there within ef at in
    own_tree s before h place g t (subst (λ (x : ToldSeen). WasTold s before x) (sym view) told) o.1 o.2 o.0
