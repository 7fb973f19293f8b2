-- The line of a scenario's fault.
use Rattle.std.specs.Prelude.{ℕ, List, [], ◌∷◌, ◌++◌, codes}
use Rattle.top_call.specs.Prelude.{Fault, FaultCode}
use Rattle.top_call.specs.Prelude.code

-- a fault's number and name
abbrev pub code_text : FaultCode → List ℕ
code_text code.TooLong = codes "1 TooLong"
code_text code.NotJson = codes "2 NotJson"
code_text code.Missing = codes "3 Missing"
code_text code.BadType = codes "4 BadType"
code_text code.UnknownKey = codes "5 UnknownKey"
code_text code.BadName = codes "6 BadName"
code_text code.DuplicateName = codes "7 DuplicateName"
code_text code.UnknownName = codes "8 UnknownName"
code_text code.BadNumber = codes "9 BadNumber"
code_text code.Loop = codes "10 Loop"
code_text code.SourceNotLogging = codes "11 SourceNotLogging"
code_text code.OtherCluster = codes "12 OtherCluster"
code_text code.TooMany = codes "13 TooMany"
code_text code.BadPlace = codes "14 BadPlace"
code_text code.NotKin = codes "15 NotKin"
code_text code.TooLarge = codes "16 TooLarge"
code_text code.BadCoord = codes "17 BadCoord"
code_text code.BadUuid = codes "18 BadUuid"
code_text code.DuplicateUuid = codes "19 DuplicateUuid"
code_text code.BothGiven = codes "20 BothGiven"
code_text code.BadPattern = codes "21 BadPattern"
code_text code.BadVersion = codes "22 BadVersion"
code_text code.BadTurn = codes "23 BadTurn"
code_text code.BadCommand = codes "24 BadCommand"
code_text code.AutoWithoutGtid = codes "26 AutoWithoutGtid"
code_text code.BadHook = codes "27 BadHook"
code_text code.NodeTurn = codes "28 NodeTurn"

-- a path is after a space; nothing is the whole text's
abbrev pub path_text : List ℕ → List ℕ
path_text [] = []
path_text (b ∷ bs) = codes " " ++ b ∷ bs

abbrev pub fault_text : Fault → List ℕ
fault_text f = codes "scenario fault " ++ code_text f.code ++ path_text f.path ++ codes "\n"
