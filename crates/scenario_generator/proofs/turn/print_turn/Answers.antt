use Rattle.std.proofs.Common.{◌∙◌, ap, codes}
use Rattle.scenario_generator.proofs.Prelude.{turn_text}
use Rattle.scenario_generator.proofs.Texts.{appended, apply_text, fetch_text, poll_text, printed, printed_once, rotate_text, store_text, two_printed, write_text}
use Rattle.scenario_generator.proofs.turn.print_turn.Goals as goal

pub returns-in_ok-print_number-in-Write : goal.returns-in_ok-print_number-in-Write
returns-in_ok-print_number-in-Write c =
    printed _ _ _ c.args.out.now.items _ _ _ (two_printed _ _ c.args.out.now.items _ _ c.in_ok-print_between-in-Write.ensures c.in_ok-print_number-in-Write.ensures)
    (ap turn_text c.in-Write.is ∙ write_text c.in-Write.root c.in-Write.size) (appended c.extend_from_slice.result _ c.print_number.new.out.items (codes "]") c.extend_from_slice.ensures.items)

pub returns-in-Fetch : goal.returns-in-Fetch
returns-in-Fetch c = printed_once _ _ c.args.out.now.items _ _ (ap turn_text c.in-Fetch.is ∙ fetch_text c.in-Fetch.no) c.print_between-in-Fetch.ensures

pub returns-in-Apply : goal.returns-in-Apply
returns-in-Apply c = printed_once _ _ c.args.out.now.items _ _ (ap turn_text c.in-Apply.is ∙ apply_text c.in-Apply.no) c.print_between-in-Apply.ensures

pub returns-in-Rotate : goal.returns-in-Rotate
returns-in-Rotate c = printed_once _ _ c.args.out.now.items _ _ (ap turn_text c.in-Rotate.is ∙ rotate_text c.in-Rotate.no) c.print_between-in-Rotate.ensures

pub returns-in-PollRead : goal.returns-in-PollRead
returns-in-PollRead c = printed_once _ _ c.args.out.now.items _ _ (ap turn_text c.in-PollRead.is ∙ poll_text c.in-PollRead.no) c.print_between-in-PollRead.ensures

pub returns-in-PollStore : goal.returns-in-PollStore
returns-in-PollStore c = printed_once _ _ c.args.out.now.items _ _ (ap turn_text c.in-PollStore.is ∙ store_text) (appended c.extend_from_slice-in-PollStore.result _ c.args.out.now.items (codes "[\"poll-store\",0]") c.extend_from_slice-in-PollStore.ensures.items)
