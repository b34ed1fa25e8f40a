-- What a run shows that was written.
use Rattle.std.specs.Prelude.{◌≡◌, ◌≢◌, ◌≤◌, ℕ, Bool, false, List, [], ◌++◌, length, Result, IfOk}
use Rattle.std.specs.List.{list_any}
use Rattle.mote_types.specs.Applications.{Applications}
use Rattle.mote_types.specs.Entries.{is_halt}
use Rattle.mote_text.specs.declared.script.End.{End}
use Rattle.kernel_core.specs.declared.config.Config.{Config}
use Rattle.kernel_core.specs.Laws.RunLaws.{KeepsLaws}
use Rattle.mote_types.specs.declared.fault.RunFault.{RunFault}
use Rattle.mote_run.specs.RunText.{Exchange, HasRunTo, IsRunText, OfEachScript, OnWholeLines}

module _ (config : Config) (says : Applications) where
  -- Nothing is read after the piece that ends a malformed line, or a line at which the mote halts. If the mote halts at boot, nothing
  -- is read. A piece has at most 4,096 bytes
  pub record ReadsNoFurther (read : List ℕ) : Type 0 where
    pub before : List ℕ
    pub piece : List ℕ
    pub parts : read ≡ before ++ piece
    pub size : length piece ≤ 4096
    pub goes_on : read ≢ [] → OnWholeLines config says before (λ entries. list_any is_halt entries ≡ false)

module _ (config : Config) (says : Applications) (quiet : Bool) where
  -- The machine's run on this script: its text begins with what was written, and its entries keep the laws. If `answer` is the run's
  -- end, all of its text was written
  pub record LawfulRun (script out : List ℕ) (answer : Result End RunFault) : Type 0 where
    pub rest : List ℕ
    pub end : End
    pub run : IsRunText config says quiet script (out ++ rest) end
    pub all : IfOk answer (λ answered. (rest ≡ []) × (answered ≡ end))
    pub laws : KeepsLaws config run.last.entries

  -- what a run promises that returned `answer`: its text, the laws of each run that may have this text, and how far it reads
  pub record RunPromise (answer : Result End RunFault) (exchange : Exchange) : Type 0 where
    pub ran : HasRunTo config says quiet RunFault.Read answer exchange
    pub lawful : OfEachScript exchange (λ script. LawfulRun script exchange.written answer)
    pub no_further : ReadsNoFurther config says exchange.read
