-- When the accesses of one list are among those of another, in the same order.
use Rattle.std.proofs.Common.{◌≡◌, ℕ, List, [], ◌∷◌, ◌++◌, length, length-append, append_assoc, refl, sym, ap, ◌∙◌, subst, inl, inr, ⊎_elim, arith}
use Rattle.std.specs.Prelude.{Result, Ok, Err, IfOk, OnErr}
use mathlib.Core.List.{IsPrefix}
use Rattle.semantics.specs.declared.reply.Reply.{Reply}
use Rattle.semantics.specs.declared.request.Request.{Request}
use Rattle.semantics.specs.Replies.{words_in}
use Rattle.board.specs.Board.{Access}
use Rattle.shared_board.specs.Witnessed.{Witnessed, Serves}
use Rattle.threads.specs.Served.{AreAmong}

-- If an access is appended to both lists, the one stays among the other.
pub among_both : (made all : List Access) (a : Access) → AreAmong made all → AreAmong (made ++ a ∷ []) (all ++ a ∷ [])
among_both [] [] a h = inl (refl, tt)
among_both [] (b ∷ all) a h = inr (among_both [] all a tt)
among_both (x ∷ made) [] a h = absurd h
among_both (x ∷ made) (b ∷ all) a h = ⊎_elim (λ (p : (x ≡ b) × AreAmong made all). inl (p.0, among_both made all a p.1)) (λ (q : AreAmong (x ∷ made) all). inr (among_both (x ∷ made) all a q)) h

-- If accesses are appended to the longer list, the other stays among it.
pub among_later : (made all more : List Access) → AreAmong made all → AreAmong made (all ++ more)
among_later [] all more h = tt
among_later (x ∷ made) [] more h = absurd h
among_later (x ∷ made) (b ∷ all) more h = ⊎_elim (λ (p : (x ≡ b) × AreAmong made all). inl (p.0, among_later made all more p.1)) (λ (q : AreAmong (x ∷ made) all). inr (among_later (x ∷ made) all more q)) h

pub among_prefix : (made all before : List Access) → AreAmong made all → IsPrefix all before → AreAmong made before
among_prefix made all before h p = subst (λ (l : List Access). AreAmong made l) p.1 (among_later made all p.0 h)

-- If the board serves a general one more access, his accesses stay among those of the history that he has seen.
pub among_served : (made seen before made' seen' : List Access) (a : Access) → AreAmong made seen → IsPrefix seen before → made' ≡ made ++ a ∷ [] → seen' ≡ before ++ a ∷ [] → AreAmong made' seen'
among_served made seen before made' seen' a h p one all =
    subst (λ (m : List Access). AreAmong m seen') (sym one) (subst (λ (l : List Access). AreAmong (made ++ a ∷ []) l) (sym all) (among_both made before a (among_prefix made seen before h p)))

-- After a request, either the access was served and entered, or nothing has changed.
pub served_entered : {E : Type 0} (opening : List ℕ) (general round : ℕ) (request : Request) (old new : Witnessed) (made made' : List Access) (r : Result Reply E)
    → IfOk r (λ x. Serves opening old general round request (words_in x) new)
    → IfOk r (λ x. made' ≡ made ++ record { general = general; round = round; request = request; reply = words_in x } ∷ [])
    → OnErr r (new ≡ old) → OnErr r (made' ≡ made)
    → AreAmong made old.seen × (old.made ≡ length made) → AreAmong made' new.seen × (new.made ≡ length made')
served_entered opening general round request old new made made' (Ok x) serves entered same still was =
    let a : Access = record { general = general; round = round; request = request; reply = words_in x } in (
      among_served made old.seen serves.before made' new.seen a was.0 serves.later entered serves.entered,
      (let one = serves.once in let count = was.1 in let long = ap length entered in omega (arith, length-append made (a ∷ []))),
    )
served_entered opening general round request old new made made' (Err e) serves entered same still was =
    subst (λ (w : Witnessed). AreAmong made' w.seen × (w.made ≡ length made')) (sym same)
    (subst (λ (m : List Access). AreAmong m old.seen × (old.made ≡ length m)) (sym still) was)

-- The same, where `before` are the accesses of the general's earlier tasks.
pub entered_behind : {E : Type 0} (before made made' : List Access) (general round : ℕ) (request : Request) (r : Result Reply E)
    → IfOk r (λ x. made' ≡ made ++ record { general = general; round = round; request = request; reply = words_in x } ∷ [])
    → IfOk r (λ x. before ++ made' ≡ (before ++ made) ++ record { general = general; round = round; request = request; reply = words_in x } ∷ [])
entered_behind before made made' general round request (Ok x) entered =
    let a : Access = record { general = general; round = round; request = request; reply = words_in x } in
    ap (λ (l : List Access). before ++ l) entered ∙ sym (append_assoc before made (a ∷ []))
entered_behind before made made' general round request (Err e) entered = tt

pub still_behind : {E : Type 0} (before made made' : List Access) (r : Result Reply E) → OnErr r (made' ≡ made) → OnErr r (before ++ made' ≡ before ++ made)
still_behind before made made' (Ok x) still = tt
still_behind before made made' (Err e) still = ap (λ (l : List Access). before ++ l) still
