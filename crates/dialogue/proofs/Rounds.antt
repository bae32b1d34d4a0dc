-- The desk goes on from block to block as if it had the whole input at once. Assumes nothing.
use Rattle.std.proofs.Common.{◌≡◌, ℕ, ◌<◌, true, List, [], ◌++◌, map, length, take, drop, Option, sym, ap, ◌∙◌, append_assoc, append-nil, take-append-drop, take_at}
use mathlib.Core.List.{map-append}
use Rattle.model.specs.Day.{Day}
use Rattle.commands.specs.Commands.{command_of}
use Rattle.meanings.specs.declared.Command.{Command}
use Rattle.input.specs.Lines.{input_lines, plain, commands_of, held_room}
use Rattle.input.proofs.Holding.{held_same, last_line}
use Rattle.lines.specs.Lines.{text_of}
use Rattle.turns.specs.Turns.{State, turn_of}
use Rattle.dialogue.specs.Talks.{Talk, talked, talk}
use Rattle.dialogue.specs.Worked.{Progressed}
use Rattle.dialogue.specs.declared.Progress.{Progress}
use Rattle.dialogue.proofs.Talks.{talk_append}

-- what is said after a text
abbrev after : List ℕ → Talk → Talk
after text t = talked (text ++ t.text) t.after

-- a block that is worked, and whatever comes next: what is said to all of it are the answers at the front of out, and then what is
-- said to the rest
module _ {day : Day} {s₀ s : State} {block : List ℕ} {p : Progress} {out out₀ : List ℕ} (h : Progressed day s₀ s block p out out₀) where
  answers_front : (talk day s₀ (commands_of (take p.at block))).text ≡ take p.size out
  answers_front =
      let text = (talk day s₀ (commands_of (take p.at block))).text in
      let a = h.done.answers in
      sym (ap (take p.size) a.stands ∙ take_at text (drop (length text) out₀) p.size (sym a.size))

  block_commands : (more : List ℕ)
      → commands_of (block ++ more) ≡ commands_of (take p.at block) ++ commands_of (drop p.at block ++ more)
  block_commands more =
      let front = take p.at block in
      let rest = drop p.at block in
      ap (λ (l : List ℕ). commands_of (l ++ more)) (sym (take-append-drop p.at block))
      ∙ ap commands_of (append_assoc front rest more)
      ∙ ap (map command_of) (h.done.whole.splits (rest ++ more))
      ∙ map-append command_of (input_lines front) (input_lines (rest ++ more))

  round_says : (more : List ℕ)
      → talk day s₀ (commands_of (block ++ more)) ≡ after (take p.size out) (talk day s (commands_of (drop p.at block ++ more)))
  round_says more =
      let ks = commands_of (take p.at block) in
      let ls = commands_of (drop p.at block ++ more) in
      ap (talk day s₀) (block_commands more) ∙ talk_append day s₀ ks ls
      ∙ rw (answers_front, ← h.done.left)

-- what a desk writes that reads its input piece by piece: what it has, the bytes in its block, those to come, and the text
pub data Writes (day : Day) : State → List ℕ → List ℕ → List ℕ → Type 0 where
  -- it works the block and writes the answers
  works : {s₀ s : State} {block more text : List ℕ} {p : Progress} {out out₀ : List ℕ} (further : List ℕ) → Progressed day s₀ s block p out out₀
      → Writes day s (drop p.at block) more further → text ≡ take p.size out ++ further → Writes day s₀ block more text
  -- where no line has ended, it reads on behind what is held
  reads : {s : State} {block more text : List ℕ} (bytes later : List ℕ) → plain block ≡ true
      → Writes day s (take held_room block ++ bytes) later text → more ≡ bytes ++ later → Writes day s block more text
  -- at the end of the input it refuses a last line without a newline
  refuses : {s : State} {block more text : List ℕ} → plain block ≡ true → 0 < length block → more ≡ []
      → text ≡ text_of (turn_of day s (command_of block)).line → Writes day s block more text
  ends : {s : State} {block more text : List ℕ} → block ≡ [] → more ≡ [] → text ≡ [] → Writes day s block more text

-- however the input is cut into pieces, that is the dialogue of its commands
pub writes_said : {day : Day} {s : State} {block more text : List ℕ} → Writes day s block more text
    → text ≡ (talk day s (commands_of (block ++ more))).text
unfolding talk input_lines
writes_said {more = more} (works {p = p} {out = out} further h w e) =
    e ∙ ap (λ (t : List ℕ). take p.size out ++ t) (writes_said w) ∙ sym (ap (λ (t : Talk). t.text) (round_says h more))
writes_said {day = day} {s = s} {block = block} (reads bytes later h w e) =
    let f : commands_of (take held_room block ++ bytes ++ later) ≡ commands_of (block ++ (bytes ++ later)) =
    ap commands_of (append_assoc (take held_room block) bytes later) ∙ held_same block (bytes ++ later) h in
    rw e (writes_said w ∙ ap (λ (ks : List (Option Command)). (talk day s ks).text) f)
writes_said {day = day} {s = s} {block = block} (refuses h some e f) =
    f ∙ rw (e, append-nil block, last_line block h some, append-nil (text_of (turn_of day s (command_of block)).line))
writes_said (ends e f g) = rw (e, f, g)
