-- Accesses that have passed a gate.
use Rattle.std.proofs.Common.{◌≡◌, ℕ, List, [], ◌∷◌, ◌++◌, sym, subst}
use Rattle.std.specs.Prelude.{◌==◌, count_by, Result, Ok, Err, IfOk, OnErr}
use Rattle.std.proofs.lemmas.List.{append_assoc, append-nil}
use Rattle.semantics.specs.declared.reply.Reply.{Reply}
use Rattle.semantics.specs.declared.request.Request.{Request}
use Rattle.semantics.specs.Replies.{words_in}
use Rattle.board.specs.Board.{Access}
use Rattle.threads.specs.Served.{HavePassed}

-- One more access passes the gate after the others.
passed_more : (passed : ℕ → ℕ → ℕ → Type 0) (before made : List Access) (a : Access) → HavePassed passed before made → passed a.general a.round (count_by (λ b. b.round == a.round) (before ++ made))
    → HavePassed passed before (made ++ a ∷ [])
passed_more passed before [] a h p = (subst (λ (l : List Access). passed a.general a.round (count_by (λ b. b.round == a.round) l)) (append-nil before) p, tt)
passed_more passed before (x ∷ made) a h p =
    (h.0, passed_more passed (before ++ x ∷ []) made a h.1 (subst (λ (l : List Access). passed a.general a.round (count_by (λ b. b.round == a.round) l)) (sym (append_assoc before (x ∷ []) made)) p))

-- After a request, either the access has passed the gate and was entered, or nothing has changed.
pub passed_entered : {E : Type 0} (passed : ℕ → ℕ → ℕ → Type 0) (general round : ℕ) (request : Request) (made made' : List Access) (r : Result Reply E)
    → IfOk r (λ x. made' ≡ made ++ record { general = general; round = round; request = request; reply = words_in x } ∷ [])
    → IfOk r (λ _. passed general round (count_by (λ a. a.round == round) made))
    → OnErr r (made' ≡ made) → HavePassed passed [] made → HavePassed passed [] made'
passed_entered passed general round request made made' (Ok x) entered behind still was =
    let a : Access = record { general = general; round = round; request = request; reply = words_in x } in
    subst (λ (l : List Access). HavePassed passed [] l) (sym entered) (passed_more passed [] made a was behind)
passed_entered passed general round request made made' (Err e) entered behind still was = subst (λ (l : List Access). HavePassed passed [] l) (sym still) was

-- What a gate says of an access implies what the session names for it.
pub passed_as : {E : Type 0} (said named : ℕ → ℕ → ℕ → Type 0) (general round nth : ℕ) (r : Result Reply E)
    → ((g o n : ℕ) → said g o n → named g o n) → IfOk r (λ _. said general round nth) → IfOk r (λ _. named general round nth)
passed_as said named general round nth (Ok x) known it = known general round nth it
passed_as said named general round nth (Err e) known it = tt
