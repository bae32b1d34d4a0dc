-- A dialogue line by line: answers after one another in one area. Assumes nothing.
use Rattle.std.proofs.Common.{◌≡◌, ℕ, ◌+◌, ◌-◌, ◌<◌, ◌≤◌, List, [], ◌∷◌, ◌++◌, map, length, take, drop, Option, sym, refl, ap, ◌∙◌, append_assoc, append-nil, arith, length-append, length-drop, drop_of_length-le, length-take, take_all, drop-drop, take_at}
use mathlib.Core.List.{map-append}
use lib.Seq.{drop-append-add}
use Rattle.model.specs.Day.{Day}
use Rattle.commands.specs.Commands.{command_of}
use Rattle.meanings.specs.declared.Command.{Command}
use Rattle.input.specs.Lines.{input_lines, whole_line, commands_of}
use Rattle.input.proofs.Whole.{whole_none, stop_within, lines_turn, whole_turn}
use Rattle.lines.specs.Lines.{text_of}
use Rattle.labels.specs.Room.{LineIs}
use Rattle.turns.specs.Turns.{State, Turn, turn_of}
use Rattle.turns.specs.Worked.{Worked}
use Rattle.dialogue.specs.Talks.{talked, talk}
use Rattle.dialogue.specs.Worked.{Talked}

-- a turn worked: its line stands in out from a place on, the rest of out is as before, the answer is the place after it
record Added (answer at : ℕ) (out out₀ : List ℕ) (after : State) (t : Turn) : Type 0 where
  pub next : answer ≡ at + length (text_of t.line)
  pub stands : out ≡ take at out₀ ++ (text_of t.line ++ drop answer out₀)
  pub within : answer ≤ length out
  pub left : after ≡ t.after

-- an area from a place on
rest_part : (out : List ℕ) (at : ℕ) → take (length out - at) (drop at out) ≡ drop at out
rest_part out at = take_all (length out - at) (drop at out) (simp length-drop (omega arith))

-- a line worked in an area from a place on
worked_added : {n at : ℕ} {part out₀ : List ℕ} {after : State} {t : Turn} → at ≤ length out₀
    → Worked n part (take (length out₀ - at) (drop at out₀)) after t
    → Added (at + n) at (take at out₀ ++ (part ++ drop (length out₀ - at) (drop at out₀))) out₀ after t
worked_added {n} {at} {part} {out₀} {after} {t} h w =
    let line : List ℕ = text_of t.line in
    let i = w.written in
    let none : drop (length out₀ - at) (drop at out₀) ≡ [] =
    drop_of_length-le (drop at out₀) {i = length out₀ - at} (simp length-drop (omega arith)) in
    let rest : drop (length line) (take (length out₀ - at) (drop at out₀)) ≡ drop (at + n) out₀ =
    ap (drop (length line)) (rest_part out₀ at) ∙ drop-drop (length line) at out₀
    ∙ ap (λ (k : ℕ). drop (at + k) out₀) (sym i.size) in
    record {
      next = ap (λ (k : ℕ). at + k) i.size;
      stands = rw (none, append-nil) (ap (λ (l : List ℕ). take at out₀ ++ l) (i.stands ∙ ap (λ (l : List ℕ). line ++ l) rest));
      within = simp (length-append, length-take) (omega (arith, i.within));
      left = w.left;
    }

-- commands and further ones
pub talk_append : (day : Day) (s : State) (ks ls : List (Option Command))
    → talk day s (ks ++ ls)
    ≡ talked ((talk day s ks).text ++ (talk day (talk day s ks).after ls).text) (talk day (talk day s ks).after ls).after
unfolding talk
talk_append day s [] ls = refl
talk_append day s (k ∷ ks) ls =
    let t = turn_of day s k in
    let w = talk day t.after ks in
    rw (talk_append day t.after ks ls, append_assoc (text_of t.line) w.text (talk day w.after ls).text)

-- one command more
talk_last : (day : Day) (s : State) (ks : List (Option Command)) (k : Option Command)
    → talk day s (ks ++ (k ∷ []))
    ≡ talked ((talk day s ks).text ++ text_of (turn_of day (talk day s ks).after k).line) (turn_of day (talk day s ks).after k).after
unfolding talk
talk_last day s ks k =
    talk_append day s ks (k ∷ []) ∙ rw (append-nil (text_of (turn_of day (talk day s ks).after k).line))

-- a line after a text at the front of an area
added_text : (text line out₀ : List ℕ) {size size' : ℕ} {out out' : List ℕ} → size ≡ length text → out ≡ text ++ drop (length text) out₀
    → size' ≡ size + length line → out' ≡ take size out ++ (line ++ drop size' out) → size' ≤ length out'
    → LineIs size' out' out₀ (text ++ line)
added_text text line out₀ {size} {size'} {out} {out'} e f g h within =
    let k : size' ≡ length text + length line = omega arith in
    let front : take size out ≡ text = ap (take size) f ∙ take_at text (drop (length text) out₀) size (sym e) in
    let rest : drop size' out ≡ drop (length (text ++ line)) out₀ =
    ap (drop size') f ∙ ap (λ (j : ℕ). drop j (text ++ drop (length text) out₀)) k
    ∙ drop-append-add text (drop (length text) out₀) (length line) ∙ drop-drop (length line) (length text) out₀
    ∙ ap (λ (j : ℕ). drop j out₀) (sym (length-append text line)) in
    record {
      size = k ∙ sym (length-append text line);
      stands = h ∙ rw (front, rest) (sym (append_assoc text line (drop (length (text ++ line)) out₀)));
      within = within;
    }

-- before the first line
pub talked_none : (day : Day) (s : State) (block out : List ℕ) → Talked day s s block 0 0 out out
unfolding talk input_lines
talked_none day s block out = record {
  within = omega arith;
  whole = whole_none;
  answers = record { size = refl; stands = refl; within = omega arith };
  left = refl;
}

-- one line more
module _ {day : Day} {s₀ s : State} {block : List ℕ} {at size : ℕ} {out out₀ : List ℕ} (before : Talked day s₀ s block at size out out₀)
    (end : ℕ) (found : end ≡ at + length (whole_line (drop at block))) (more : at < end) where
  commands_turn : commands_of (take end block) ≡ commands_of (take at block) ++ (command_of (take (end - at) (drop at block)) ∷ [])
  commands_turn =
      ap (map command_of) (lines_turn block at end found more before.whole)
      ∙ map-append command_of (input_lines (take at block)) (take (end - at) (drop at block) ∷ [])

  pub talked_turn : {n : ℕ} {part : List ℕ} {s' : State}
      → Worked n part (take (length out - size) (drop size out)) s' (turn_of day s (command_of (take (end - at) (drop at block))))
      → Talked day s₀ s' block end (size + n) (take size out ++ (part ++ drop (length out - size) (drop size out))) out₀
  talked_turn worked =
      let added = worked_added before.answers.within worked in
      let ks = commands_of (take at block) in
      let k = command_of (take (end - at) (drop at block)) in
      let a = before.answers in
      let e = commands_turn in
      let f = talk_last day s₀ ks k in
      let line = text_of (turn_of day s k).line in
      let l = added_text (talk day s₀ ks).text line out₀ a.size a.stands added.next added.stands added.within in
      record {
        within = stop_within block at end found more;
        whole = whole_turn block at end found more before.whole;
        answers = rw (e, f, ← before.left) l;
        left = rw (e, f, ← before.left) added.left;
      }
