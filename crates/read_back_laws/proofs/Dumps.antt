-- A dump of a world without errant writes of a scenario that was read reads as the scenario that it has.
use Rattle.std.proofs.Common.{◌≡◌, ℕ, true, List, length, Some, Ok, leb}
use Rattle.read_back_laws.proofs.Prelude.{HasTexts, IsChecked, IsReadable, IsWithinLimits, IsWorldOf, MAX_SCENARIO_LEN, Scenario, World, dump_data, dump_text}
use Rattle.read_back_laws.proofs.Prelude.{dumped_scenario, is_utf8, le-leb, opening_of, read, scenario_in}
use Rattle.read_back_laws.proofs.Readable.{dump-readable}
use Rattle.read_back_laws.proofs.ReadScenarios.{reads-back}
use Rattle.read_back_laws.proofs.Texts.{dump-numbers, dump-texts}
use Rattle.read_back_laws.proofs.Values.{CoordsRead}
use Rattle.read_back_laws.proofs.Wholes.{data-reads}

-- a text whose numbers have 64 bits and whose labels rise is JSON, and if its texts are UTF-8 so is the whole
abbrev pub TextsRead : Type 0
TextsRead = (w : World) (s : Scenario) (now : ℕ) → IsReadable w s now → read (dump_text w s now) ≡ Some (dump_data w s now)

abbrev pub TextsUtf8 : Type 0
TextsUtf8 = (w : World) (s : Scenario) (now : ℕ) → HasTexts w s → is_utf8 (dump_text w s now) ≡ true

pub dump-reads : CoordsRead → TextsRead → TextsUtf8 → (bytes : List ℕ) (s : Scenario) (w : World) (now : ℕ) → scenario_in bytes ≡ Ok s → IsWorldOf s w → IsWithinLimits w s now → IsChecked (opening_of w)
    → scenario_in (dump_text w s now) ≡ Ok (dumped_scenario w s now)
unfolding scenario_in
dump-reads coords json utf8 bytes s w now e of within checked =
    let back = reads-back bytes s e in
    let able = dump-readable coords s w of checked back.settings in
    let readable = dump-numbers s w checked able back.says now within.moment in
    let text = utf8 w s now (dump-texts s w checked able back.says) in
    let short : leb (length (dump_text w s now)) MAX_SCENARIO_LEN ≡ true = le-leb _ _ within.text in
    rw short (rw text (rw (json w s now readable) (data-reads s w now of checked able back.says back.own within.moment)))
