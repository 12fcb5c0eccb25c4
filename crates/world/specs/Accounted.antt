-- Letters for which a ledger accounts in an oral campaign (own). Each definition is the one of KindAccounted.antt for
-- oral campaigns.
use Rattle.std.specs.Prelude.{ℕ, List, Option}
use Rattle.insn.specs.declared.insn.Insn.{Insn}
use Rattle.board.specs.Board.{Access}
use Rattle.round.specs.Scenario.{Scenario}
use Rattle.round.specs.Letters.{Letter}
use Rattle.world.specs.World.{oral_kind}
use Rattle.world.specs.KindAccounted as accounted
pub use Rattle.world.specs.KindAccounted.{letter_by, letters_by, rounds_of}

abbrev pub IsLetterOf : Scenario → List (List Letter) → ℕ → Option (List Insn) → Letter → Type 0
IsLetterOf s before g program l = accounted.IsLetterOf oral_kind s before g program l

abbrev pub IsAccountedRound : Scenario → List (List Letter) → List Access → List Letter → Type 0
IsAccountedRound s before piece letters = accounted.IsAccountedRound oral_kind s before piece letters

abbrev pub AreAccounted : Scenario → List (List Letter) → List Access → List (List Letter) → Type 0
AreAccounted s before ledger rounds = accounted.AreAccounted oral_kind s before ledger rounds

abbrev pub IsAccounted : Scenario → List Access → List Letter → Type 0
IsAccounted s ledger letters = accounted.IsAccounted oral_kind s ledger letters
