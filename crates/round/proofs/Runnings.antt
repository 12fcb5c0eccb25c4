-- Runs of activations.
use Rattle.std.proofs.Common.{◌≡◌, ℕ, zero, suc, List, [], ◌∷◌, ◌++◌, refl, sym, ap, subst, ◌∙◌}
use Rattle.std.specs.Prelude.{map}
use Rattle.semantics.specs.declared.request.Request.{Request}
use Rattle.board.specs.Board.{Access}
use Rattle.round.specs.Activation.{Activation, Turn, Goes, Asks, Ended, turn}
use Rattle.round.specs.Runs.{Onward, Runs}

abbrev pub StopsAt : Activation → List Access → Activation → Type 0
StopsAt s served end = (served ≡ []) × (s ≡ end)

one_more : (o : Turn) (k : ℕ) (t more : List Access) (u v : Activation)
    → ((s : Activation) (t' : List Access) → Runs k s t' u → Runs (suc k) s (t' ++ more) v)
    → Onward (Runs k) o t u → Onward (Runs (suc k)) o (t ++ more) v
one_more (Goes s) k t more u v again h = again s t h
one_more (Asks q f) k [] more u v again h = absurd h
one_more (Asks q f) k (a ∷ t) more u v again h = (h.0, again (f a.reply) t h.1)
one_more Ended k t more u v again h = absurd h

pub Runs-snoc : (k : ℕ) (s : Activation) (t more : List Access) (u v : Activation) → Runs k s t u → Onward StopsAt (turn u) more v → Runs (suc k) s (t ++ more) v
Runs-snoc zero s t more u v h last =
    let P : List Access → Activation → Type 0 = λ t' s'. Onward StopsAt (turn s') (t' ++ more) v in
    subst (λ (s' : Activation). P t s') (sym h.1) (subst (λ (t' : List Access). P t' u) (sym h.0) last)
Runs-snoc (suc k) s t more u v h last = one_more (turn s) k t more u v (λ s' t' h'. Runs-snoc k s' t' more u v h' last) h

stays : (o : Turn) (rest : Activation → List Access → Activation → Type 0) (t : List Access) (u : Activation) → o ≡ Ended → Onward rest o t u → ⊥
stays (Goes s) rest t u e h = cc
stays (Asks q f) rest t u e h = cc
stays Ended rest t u e h = h

same_by : (o : Turn) (k k' : ℕ) (t : List Access) (u u' : Activation)
    → ((s : Activation) (t' : List Access) → Runs k s t' u → Runs k' s t' u' → u ≡ u')
    → Onward (Runs k) o t u → Onward (Runs k') o t u' → u ≡ u'
same_by (Goes s) k k' t u u' again h h' = again s t h h'
same_by (Asks q f) k k' [] u u' again h h' = absurd h
same_by (Asks q f) k k' (a ∷ t) u u' again h h' = again (f a.reply) t h.1 h'.1
same_by Ended k k' t u u' again h h' = absurd h

pub Runs-same : (k k' : ℕ) (s : Activation) (t : List Access) (u u' : Activation) → Runs k s t u → Runs k' s t u' → turn u ≡ Ended → turn u' ≡ Ended → u ≡ u'
Runs-same zero zero s t u u' h h' d d' = sym h.1 ∙ h'.1
Runs-same zero (suc k') s t u u' h h' d d' = absurd (stays (turn s) (Runs k') t u' (ap turn h.1 ∙ d) h')
Runs-same (suc k) zero s t u u' h h' d d' = absurd (stays (turn s) (Runs k) t u (ap turn h'.1 ∙ d') h)
Runs-same (suc k) (suc k') s t u u' h h' d d' = same_by (turn s) k k' t u u' (λ s' t' r r'. Runs-same k k' s' t' u u' r r' d d') h h'

abbrev pub replies : List Access → List (List ℕ)
replies t = map (λ (a : Access). a.reply) t

-- If two runs with the same replies both come to a request, it is the same request.
asks_by : (o : Turn) (k j : ℕ) (t t' : List Access) (u v : Activation)
    → ((s : Activation) (x y : List Access) → replies x ≡ replies y → Runs k s x u → Runs j s y v → u ≡ v)
    → replies t ≡ replies t' → Onward (Runs k) o t u → Onward (Runs j) o t' v → u ≡ v
asks_by (Goes s) k j t t' u v again e h h' = again s t t' e h h'
asks_by (Asks q f) k j [] t' u v again e h h' = absurd h
asks_by (Asks q f) k j (a ∷ t) [] u v again e h h' = absurd h'
asks_by (Asks q f) k j (a ∷ t) (b ∷ t') u v again e h h' =
    let one : a.reply ≡ b.reply = cc in
    let rest : replies t ≡ replies t' = cc in
    again (f a.reply) t t' rest h.1 (subst (λ (answer : List ℕ). Runs j (f answer) t' v) (sym one) h'.1)
asks_by Ended k j t t' u v again e h h' = absurd h

none_left : (t : List Access) → replies t ≡ [] → t ≡ []
none_left [] e = refl
none_left (a ∷ t) e = cc

stuck : (o : Turn) (q : Request) (f : List ℕ → Activation) (k : ℕ) (u : Activation) → o ≡ Asks q f → Onward (Runs k) o [] u → ⊥
stuck (Goes s) q f k u e h = absurd (let g : Goes s ≡ Asks q f = e in cc)
stuck (Asks r f') q f k u e h = h
stuck Ended q f k u e h = h

pub asking_same : (k j : ℕ) (s : Activation) (t t' : List Access) (u v : Activation) (q r : Request) (f h : List ℕ → Activation)
    → replies t ≡ replies t' → Runs k s t u → Runs j s t' v → turn u ≡ Asks q f → turn v ≡ Asks r h → u ≡ v
asking_same zero zero s t t' u v q r f h n a b e d = sym a.1 ∙ b.1
asking_same zero (suc j) s t t' u v q r f h n a b e d =
    let none : t' ≡ [] = none_left t' (sym n ∙ ap replies a.0) in
    absurd (stuck (turn s) q f j v (ap turn a.1 ∙ e) (let A : List Access → Type 0 = λ x. Onward (Runs j) (turn s) x v in subst A none b))
asking_same (suc k) zero s t t' u v q r f h n a b e d =
    let none : t ≡ [] = none_left t (n ∙ ap replies b.0) in
    absurd (stuck (turn s) r h k u (ap turn b.1 ∙ d) (let A : List Access → Type 0 = λ x. Onward (Runs k) (turn s) x u in subst A none a))
asking_same (suc k) (suc j) s t t' u v q r f h n a b e d =
    asks_by (turn s) k j t t' u v (λ s' x y n' a' b'. asking_same k j s' x y u v q r f h n' a' b' e d) n a b

-- So the next request follows from the replies.
pub request_same : (k j : ℕ) (s : Activation) (t t' : List Access) (u v : Activation) (q r : Request) (f h : List ℕ → Activation)
    → replies t ≡ replies t' → Runs k s t u → Runs j s t' v → turn u ≡ Asks q f → turn v ≡ Asks r h → q ≡ r
request_same k j s t t' u v q r f h n a b e d =
    let same : u ≡ v = asking_same k j s t t' u v q r f h n a b e d in
    let both : Asks q f ≡ Asks r h = sym e ∙ (ap turn same ∙ d) in cc
