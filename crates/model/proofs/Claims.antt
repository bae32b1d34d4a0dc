-- The claims that a reader looks for, by name; each is proved in the module that its line names. Assumes nothing.

-- The file. The check accepts exactly the files of document 01, and each refusal has its exact condition and place.
pub use Rattle.timetable.proofs.Accepted.{accepted_iff}
pub use Rattle.timetable.proofs.Refusals.{refused_iff}
-- The notice area. What is written is read back; refusal 23 and its place; entering and striking keep the rows in order; a notice
-- entered has the one row of its number, and every other row is as it was.
pub use Rattle.model.proofs.Areas.{rows_area, past_area}
pub use Rattle.model.proofs.Rows.{area_right, area_read, rows_checked, rows_place}
pub use Rattle.model.proofs.Entering.{entered_formed, struck_formed, stands_iff, elsewhere_iff, entered_into, entered_same, stands_entered, stands_struck, stands_other}
-- The primary delay. Its notice stands, is for the connection and has that delay; none for it has a longer one, and none as long a lower
-- number; 0 and 0 exactly if none stands for it; the order of the notices has no meaning.
pub use Rattle.model.proofs.Primary.{primary_among, primary_largest, primary_lowest, primary_none_iff, primary_same}
-- Times. They depend on the delays alone; a late connection passes on what the time at the stop leaves; the network is sound, and no
-- time is after 5,759.
pub use Rattle.model.proofs.Times.{departure_same, arrival_same, departure_own, departure_after, travel_kept, on_time, on_time_arrival, departure_most, network_sound, network_same}
-- The graph. Each entry is the one that document 01's sentence says; the area's length; every arc leads forward; journeys are the
-- routes over the arcs.
pub use Rattle.model.proofs.Boards.{waiting_listed, transfer_listed, first_listed}
pub use Rattle.model.proofs.GraphArea.{length_graph}
pub use Rattle.model.proofs.Arcs.{arcs_forward}
pub use Rattle.model.proofs.Routes.{route_iff}
pub use Rattle.model.proofs.Shown.{arcs_lead}
-- Journeys. Each predecessor is the one that document 01 says; the journey is valid, none arrives earlier, and it is the first in the
-- order; there is none exactly if the predecessors lead nowhere; a journey has at most as many connections as there are.
pub use Rattle.model.proofs.Journeys.{predecessor_means, reached_iff, journey_best, best_only, nowhere_iff, journey_short, at_most}
-- The margin. 0 exactly if just made, -1 exactly if missed by a minute, and its range.
pub use Rattle.model.proofs.Margin.{margin_zero, margin_missed, margin_range}
-- The refusals. In which order the parts of an operation decide, what it gives that they pass, and which numbers they refuse with.
pub use Rattle.model.proofs.Parts.{call_chain, call_passed, avoids, asked_number}
pub use Rattle.model.proofs.Ready.{ready_by}
-- A posting that is accepted: what stands after it, whatever stood before; posted as it stands, it changes nothing.
pub use Rattle.model.proofs.Postings.{posted_rows, correction_count, new_count, posted_same, posted_again}
-- Demand 2. What the answer of an enquiry means, whatever comes in.
pub use Rattle.model.proofs.Enquiries.{enquiry_means}
-- Why. What its answer means, whatever comes in, and which numbers it refuses with.
pub use Rattle.model.proofs.Why.{why_means, why_number}
-- Demand 3. The register has of each number its latest accepted notice; the register and the rows have the same notices; each call
-- answers as the register does; the claim about whole runs; after a run why tells by the register.
pub use Rattle.model.proofs.Latest.{register_latest}
pub use Rattle.model.proofs.Register.{same_arranged, has_arranged, elsewhere_arranged, corrected_arranged, new_arranged, struck_arranged, count_arranged}
pub use Rattle.model.proofs.Runs.{step, whole_runs, enquiry_refusals, why_after}
-- For C: an operation on the fronts of its areas gives what it gives on the whole areas.
pub use Rattle.model.proofs.Fronts.{front_built, front_changed, front_margined, front_enquired}
pub use Rattle.model.proofs.Why.{front_explained}
-- Document 01's starred instances, and cases worked by hand.
pub use Rattle.model.proofs.Instances.{instances}
pub use Rattle.model.proofs.Cases.{cases_right}
