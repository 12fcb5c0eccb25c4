-- A board that only one general uses, in one round.
use Rattle.std.proofs.Common.{◌≡◌, ℕ, List, [], ◌∷◌, ◌++◌, All, refl, append-nil, append_assoc, sym, ◌∙◌, ap, subst}
use Rattle.std.proofs.lemmas.List.Elements.{All-nil, All-push}
use Rattle.label.specs.declared.shape.Shape.{Shape}
use Rattle.board.specs.Board.{Access}
use Rattle.board.specs.Ledger.{RecordedBoard}
use Rattle.trial.specs.Setting.{Setting}
use Rattle.trial.specs.Trial.{IsOfOne, ServesOne}

-- Proves the claim before the first access.
pub serves_none : (shape : Shape) (b : RecordedBoard) → ServesOne shape b b
serves_none shape b = record {
  opening = refl;
  more = [];
  ledger = sym (append-nil b.ledger);
  own = All-nil (λ (a : Access). (a.general ≡ shape.general) × (a.round ≡ shape.round));
}

-- Proves that one more access of this general keeps the claim.
pub one_more : (shape : Shape) (old b d : RecordedBoard) (a : Access) → ServesOne shape old b → d.opening ≡ b.opening → d.ledger ≡ b.ledger ++ a ∷ [] → a.general ≡ shape.general → a.round ≡ shape.round → ServesOne shape old d
one_more shape old b d a one opened entered general round =
    let P : Access → Type 0 = λ x. (x.general ≡ shape.general) × (x.round ≡ shape.round) in
    record {
      opening = opened ∙ one.opening;
      more = one.more ++ a ∷ [];
      ledger = entered ∙ (ap (λ (l : List Access). l ++ a ∷ []) one.ledger ∙ append_assoc old.ledger one.more (a ∷ []));
      own = All-push P one.more a one.own (general, round);
    }

-- Proves that on a board without earlier accesses, all accesses are his.
pub all_of_one : (shape : Shape) (words : List ℕ) (b d : RecordedBoard) → b.opening ≡ words → b.ledger ≡ [] → ServesOne shape b d → IsOfOne shape words d
all_of_one shape words b d opened none one =
    let P : Access → Type 0 = λ a. (a.general ≡ shape.general) × (a.round ≡ shape.round) in
    let all : d.ledger ≡ one.more = one.ledger ∙ ap (λ (l : List Access). l ++ one.more) none in
    record { opening = one.opening ∙ opened; own = subst (λ (l : List Access). All P l) (sym all) one.own }

pub board_in : (setting : Setting) (shape : Shape) (words : List ℕ) (b : RecordedBoard) → shape ≡ setting.shape → words ≡ setting.board → IsOfOne shape words b
    → IsOfOne setting.shape setting.board b
board_in setting shape words b same opened own = subst (λ (ws : List ℕ). IsOfOne setting.shape ws b) opened (subst (λ (sh : Shape). IsOfOne sh words b) same own)
