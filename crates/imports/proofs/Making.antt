-- How a file is made at the front of an area, and how it comes into an output area. Assumes nothing.
use Rattle.std.proofs.Common.{◌≡◌, ℕ, ◌+◌, ◌*◌, ◌/◌, ◌<◌, ◌≤◌, List, [], ◌∷◌, ◌++◌, length, take, drop, Ok, Err, Result, sym, refl, ap, ◌∙◌, append_assoc, arith, length-append, length-drop, length-take, length-take-le, take_at, drop_at}
use borrow.Rule.Slice.PartMut.{mid_of, post_of, put_mid}
use lib.Seq.{sets, take-append-add}
use Rattle.numbers.specs.Numbers.{numbers_of, bytes_of}
use Rattle.numbers.proofs.Areas.{Bytes, length_numbers}
use Rattle.numbers.proofs.Bytes.{length_bytes, bytes_numbers}
use Rattle.refusals.specs.Answers.{accepted, refused, answering, Verdict, Passed, Refused, told, number_of}
use Rattle.timetable.specs.File.{header_length, connection_length, file_length}
use Rattle.timetable.specs.Check.{format_version, max_stops, max_connections, file_verdict}
use Rattle.decimals.proofs.Written.{sets_append}
use Rattle.labels.proofs.Texts.{sets_front}
use Rattle.refusals.specs.RefusalNumber as refusal
use Rattle.gtfs.specs.Feed.{Connection}
use Rattle.gtfs.specs.Files.{mark, connection_numbers}
use Rattle.gtfs.specs.Conversions.{conversion, converted, counts_verdict, text_connections, imported_file, import_verdict, imported}
use Rattle.refusals.specs.declared.Refusal.{Refusal}
use Rattle.gtfs.proofs.Imports.{counts_refused, no_stops, many_stops, many_connections}
use Rattle.feeds.specs.Reading.{RowsRead}
use Rattle.gtfs.proofs.Files.{length_connection_numbers, file_parts}
use Rattle.gtfs.proofs.Conversions.{converted_short, converted_done}
use Rattle.imports.specs.Making.{Heading, heading_of, file_in, Finished, FileMade, delivered}

-- the letters, the counts and the transfer times written one after the other
pub heading_written : {e f g : List ℕ} (d change : List ℕ) (s n : ℕ) → e ≡ sets d 0 mark
    → f ≡ sets e (length mark) (bytes_of (format_version ∷ s ∷ n ∷ []))
    → g ≡ sets f header_length (take (2 * s) change) → g ≡ sets d 0 (heading_of change s n)
unfolding bytes_of
heading_written d change s n p q r =
    rw (r, q, p)
    (ap (λ (l : List ℕ). sets l header_length (take (2 * s) change)) (sets_append d 0 mark (bytes_of (format_version ∷ s ∷ n ∷ [])))
    ∙ sets_append d 0 (mark ++ bytes_of (format_version ∷ s ∷ n ∷ [])) (take (2 * s) change))

-- how long the header and the transfer times are
heading_length : (change : List ℕ) (s n : ℕ) → s ≡ length (numbers_of change) → length (heading_of change s n) ≡ header_length + 2 * s
unfolding bytes_of
heading_length change s n e =
    simp length-take (omega (arith, length_numbers change))

-- a file whose header and transfer times have been written before its connections
module _ (before after change : List ℕ) (s n : ℕ) (h : Heading change s n before) (w : after ≡ sets before 0 (heading_of change s n)) where
  length_file_in : length (file_in before change s n) ≡ file_length s n
  length_file_in =
      rw (length-append (heading_of change s n), heading_length change s n h.stops) (simp (length-take, length-drop) (omega arith))

  file_stands : take (file_length s n) after ≡ file_in before change s n
  file_stands =
      let l : length (heading_of change s n) ≡ header_length + 2 * s = heading_length change s n h.stops in
      let e : after ≡ heading_of change s n ++ drop (length (heading_of change s n)) before =
      w ∙ sets_front before (heading_of change s n) (omega arith) in
      rw (e, ← l) (take-append-add (heading_of change s n) (drop (length (heading_of change s n)) before) (connection_length * n))

  pub finished : {r : Result ℕ (Refusal ℕ)} → told r ≡ answering (file_verdict (take (file_length s n) after)) (file_length s n)
      → Finished r after before change s n
  finished e = record { told = rw (length_file_in, ← file_stands) e; stands = ap (λ (k : ℕ). take k after) length_file_in ∙ file_stands }

-- where the connections of a text stand behind the room for the transfer times, the file is the text's
module _ (area part text change : List ℕ) (at size s n : ℕ) where
  pub file_of_text : Bytes change → s ≡ length (numbers_of change) → n ≡ length (text_connections text) → header_length + 2 * s ≡ at
      → at ≤ length area → connection_length * n ≤ length (mid_of at size area)
      → part ≡ sets (mid_of at size area) 0 (bytes_of (connection_numbers (text_connections text)))
      → file_in (put_mid at size area part) change s n ≡ imported_file text change
  file_of_text b e d q h room stand =
      let cs : List Connection = text_connections text in
      let bytes : List ℕ = bytes_of (connection_numbers cs) in
      let l : length bytes ≡ connection_length * n = omega (arith, length_bytes (connection_numbers cs), length_connection_numbers cs) in
      let f : part ≡ bytes ++ drop (length bytes) (mid_of at size area) = stand ∙ sets_front (mid_of at size area) bytes (omega arith) in
      let g : take (connection_length * n) (drop (header_length + 2 * s) (put_mid at size area part)) ≡ bytes =
      rw (q, drop_at (take at area) (part ++ post_of at size area) at (length-take-le at area h), f, append_assoc)
      (take_at bytes (drop (length bytes) (mid_of at size area) ++ post_of at size area) (connection_length * n) l) in
      rw (g, file_parts (numbers_of change) cs, bytes_numbers change b, ← e, ← d)

-- a file that is refused, and one that the check decides of
pub made_refused : {text change : List ℕ} (after : List ℕ) {r : Refusal ℕ} → import_verdict text change ≡ Refused (number_of r.0) r.1
    → FileMade (Err r) after text change
made_refused after e = record {
  told = rw e;
  within = λ n h. let z : ◌≡◌ {A = ℕ} 0 1 = cc in omega arith;
  stands = λ n h. let z : ◌≡◌ {A = ℕ} 0 1 = cc in absurd (omega arith);
}

-- what the counts are refused with where the rows of a text are read
module _ {text change area before : List ℕ} {n : ℕ} (rows : RowsRead (Ok n) area before text) (after : List ℕ) where
  made_counted : {r : Refusal ℕ}
      → counts_verdict (length (numbers_of change)) (length (text_connections text)) ≡ Refused (number_of r.0) r.1
      → FileMade (Err r) after text change
  made_counted e = made_refused after (counts_refused text change (sym rows.verdict) e)

  module _ {r : Refusal ℕ} (place : r.1 ≡ 0) where
    pub made_no_stops : number_of r.0 ≡ refusal.wrong_stop_count → length change / 2 < 1 → FileMade (Err r) after text change
    made_no_stops e h =
        let s = length (numbers_of change) in
        made_counted (rw (e, place) (no_stops s (length (text_connections text)) (omega (arith, length_numbers change))))

    pub made_many_stops : number_of r.0 ≡ refusal.wrong_stop_count → max_stops < length change / 2 → FileMade (Err r) after text change
    made_many_stops e h =
        let s = length (numbers_of change) in
        made_counted (rw (e, place) (many_stops s (length (text_connections text)) (omega (arith, length_numbers change))))

    pub made_many_connections : number_of r.0 ≡ refusal.wrong_connection_count → 1 ≤ length change / 2 → length change / 2 ≤ max_stops
        → max_connections < n → FileMade (Err r) after text change
    made_many_connections e some few h =
        let s = length (numbers_of change) in
        let l = length_numbers change in
        let m = length (text_connections text) in
        made_counted (rw (e, place) (many_connections s m (omega arith) (omega arith) (omega (arith, rows.count n refl))))

told_size : (v : Verdict) (n size : ℕ) → accepted n ≡ answering v size → n ≡ size
told_size Passed n size e = cc
told_size (Refused m p) n size e = cc

pub made_checked : {r : Result ℕ (Refusal ℕ)} {after area text change : List ℕ} {s n : ℕ} → Finished r after area change s n
    → file_in area change s n ≡ imported_file text change → import_verdict text change ≡ file_verdict (imported_file text change)
    → FileMade r after text change
made_checked {r} {after} {area} {text} {change} {s} {n} h e d =
    let t : told r ≡ answering (import_verdict text change) (length (imported_file text change)) = rw (d, ← e) h.told in
    let f : take (length (imported_file text change)) after ≡ imported_file text change = rw (← e) h.stands in
    let size : (k : ℕ) → r ≡ Ok k → k ≡ length (imported_file text change) =
    λ k q. told_size (import_verdict text change) k (length (imported_file text change)) (rw q at t) in
    record {
      told = t;
      within = λ k q. omega (arith, size k q, simp length-take at (ap length f));
      stands = λ k q. rw (size k q) f;
    }

-- the first n bytes of an area, of which it has so many, into an output area that has room for them, and into one that has none
module _ (area output : List ℕ) (n : ℕ) (h : n ≤ length area) where
  pub delivered_whole : n ≤ length output → conversion (accepted n) (sets output 0 (take n area)) ≡ delivered (Ok n) area output
  delivered_whole k =
      let bytes : List ℕ = take n area in
      let e : length bytes ≡ n = length-take-le n area h in
      rw (sets_front output bytes (omega arith))
      (ap (λ (m : ℕ). conversion (accepted m) (bytes ++ drop (length bytes) output)) (sym e)
      ∙ converted_done {v = Passed} bytes output refl (omega arith))

  pub delivered_none : length output < n → conversion (refused refusal.short_output 0) output ≡ delivered (Ok n) area output
  delivered_none k = converted_short {v = Passed} (take n area) output refl (omega (arith, length-take-le n area h))

-- what was made is delivered as the verdict on it says
delivered_by : (v : Verdict) (made : Result ℕ (Refusal ℕ)) (bytes area output : List ℕ) → told made ≡ answering v (length bytes)
    → ((n : ℕ) → made ≡ Ok n → take n area ≡ bytes) → delivered made area output ≡ converted v bytes output
delivered_by Passed (Ok n) bytes area output e stand = rw (stand n refl)
delivered_by Passed (Err r) bytes area output e stand = cc
delivered_by (Refused m q) (Ok n) bytes area output e stand = cc
delivered_by (Refused m q) (Err r) bytes area output e stand = rw e

pub delivered_import : {text change area : List ℕ} {made : Result ℕ (Refusal ℕ)} (output : List ℕ) → FileMade made area text change
    → delivered made area output ≡ imported text change output
unfolding imported
delivered_import {text} {change} {area} {made} output h =
    delivered_by (import_verdict text change) made (imported_file text change) area output h.told h.stands
