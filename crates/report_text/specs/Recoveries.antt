-- The lines of recoveries.
use Rattle.std.specs.Prelude.{ℕ, List, [], ◌++◌, codes, decimal, Option, Some, None}
use Rattle.server_words.specs.OrchBase.Names.{HostPort}
use Rattle.server_words.specs.OrchBase.declared.recovery.Ending.{Ending}
use Rattle.server_words.specs.OrchBase.declared.recovery.Ending.TheVariants as ending
use Rattle.server_words.specs.OrchBase.declared.server.Moment.{Moment}
use Rattle.commands.specs.declared.line.RecoveryLine.{RecoveryLine}
use Rattle.report_text.specs.Names.{name_text}
use Rattle.report_text.specs.Words.{acked_text}
use Rattle.server_words.specs.OrchBase.Words.{cause_name_text}
use Rattle.server_words.specs.OrchBase.Words.{kind_text}

abbrev pub ended_text : Option Moment → List ℕ
ended_text None = []
ended_text (Some t) = codes " ended " ++ decimal t.0

-- open, or when it ended and how
abbrev pub ending_text : List HostPort → Option Moment → Ending → List ℕ
ending_text names ended ending.Unended = codes " open"
ending_text names ended (ending.Promoted n) = ended_text ended ++ codes " promoted " ++ name_text names n
ending_text names ended (ending.Failed cause) = ended_text ended ++ codes " failed " ++ cause_name_text cause
ending_text names ended ending.Interrupted = ended_text ended ++ codes " interrupted"

-- recovery ID CLUSTER KIND FAILED begun T
abbrev pub begun_text : List HostPort → RecoveryLine → List ℕ
begun_text names r =
    codes "recovery " ++ decimal r.id ++ codes " " ++ r.cluster ++ codes " " ++ kind_text r.kind
    ++ codes " " ++ name_text names r.failed ++ codes " begun " ++ decimal r.begun.0

-- what is recovered, when it began, when and how it ended, and whether it is acknowledged
abbrev pub recovery_text : List HostPort → RecoveryLine → List ℕ
recovery_text names r = begun_text names r ++ ending_text names r.ended r.outcome ++ codes " " ++ acked_text r.acked
