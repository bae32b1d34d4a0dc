-- A line that no newline ends is no command. Assumes nothing.
use Rattle.std.proofs.Common.{◌≡◌, ℕ, true, List, refl}
use Rattle.model.specs.Day.{Day}
use Rattle.commands.specs.Commands.{command_of}
use Rattle.input.specs.Lines.{plain}
use Rattle.input.proofs.Holding.{open_unreadable}
use Rattle.lines.specs.Lines.{refusal, text_of}
use Rattle.labels.specs.Room.{LineIs}
use Rattle.refusals.specs.RefusalNumber.{unreadable}
use Rattle.turns.specs.Turns.{State, turn_of}
use Rattle.turns.specs.Worked.{Worked}

-- a line that has not ended, refused
pub open_worked : {n : ℕ} {out out₀ : List ℕ} → LineIs n out out₀ (text_of (refusal unreadable 0)) → (day : Day) (s : State) (line : List ℕ)
    → plain line ≡ true → Worked n out out₀ s (turn_of day s (command_of line))
unfolding turn_of
open_worked w day s line h = rw (open_unreadable line h) (record { written = w; left = refl })
