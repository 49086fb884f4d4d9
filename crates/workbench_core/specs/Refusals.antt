-- Refusals: their statuses and their lines.
--   reason_text r, which_text w == the words for what is wrong with an entry, and for what is
--       limited
--   of_file f == the refusal of a file that writes down no equation
--   of_stage j what == the refusal where a stage of the completion, from 0, is too large
--   of_completion f == the refusal of a rule that has no completion
--   of_tree_error e == the refusal of a text that is not that of a tree
--   fixed_of r == the refusal with this fixed line, where the line is one
--   status_of r, name_of r == the status and the name of a refusal
--   reason_of_tree r == the words for why a tree text is refused
--   field text == a space and the text
--   fields_of r == what the line says besides the status and the name
--   line_of r == the line `refused STATUS NAME FIELD..`; `Differs` has its stored and computed
--       values in lines of their own
use Rattle.std.specs.Prelude.{ℕ, List, [], codes, decimal, ◌++◌, Option, None, Some}
use Rattle.std.specs.Fmt.{signed_decimal}
use Rattle.equation_document.specs.declared.fault.Reason.{Reason}
use Rattle.equation_document.specs.declared.fault.Reason.TheVariants as reasons
use Rattle.equation_document.specs.declared.fault.Which.{Which}
use Rattle.equation_document.specs.declared.fault.Which.TheVariants as limits
use Rattle.equation_file.specs.declared.refusal.FileRefusal.{FileRefusal}
use Rattle.equation_file.specs.declared.refusal.FileRefusal.TheVariants as files
use Rattle.plain_trees.specs.declared.error.TreeError.{TreeError}
use Rattle.plain_trees.specs.declared.error.TreeError.TheVariants as trees
use Rattle.rule_completion.specs.declared.refusal.StageFault.{StageFault}
use Rattle.rule_completion.specs.declared.refusal.StageFault.TheVariants as stages
use Rattle.rule_completion.specs.declared.refusal.StageRefusal.{StageRefusal}
use Rattle.rule_completion.specs.declared.refusal.StageRefusal.TheVariants as refused
use Rattle.workbench_core.specs.declared.fixed.FixedRefusal.{FixedRefusal}
use Rattle.workbench_core.specs.declared.fixed.FixedRefusal.TheVariants as fixed
use Rattle.workbench_core.specs.declared.refusal.Refusal.{Refusal}
use Rattle.workbench_core.specs.declared.refusal.Refusal.TheVariants.{FileFault, NotUtf8, NotToml, Malformed, Limit, NotSubcritical, RuleTooLarge, TooManyTrees, TreeTooLarge, ZeroDegree}
use Rattle.workbench_core.specs.declared.refusal.Refusal.TheVariants.{CoefficientTooLarge, NoProject, Full, StoreFault, StoredRow, Differs, TreeRefused, TableRefused, TooManyNoises, Missing}
use Rattle.workbench_core.specs.declared.refusal.Refusal.TheVariants.{Memory, OldStore, MetTooLarge, StoredContext, TooManyTriples}
use Rattle.workbench_core.specs.declared.refusal.TreeReason.{TreeReason}
use Rattle.workbench_core.specs.declared.refusal.TreeReason.TheVariants.{TreeText, UnknownType, TooManyEdges, TooManyDecorations, NotCanonical, NotPositive}
use Rattle.workbench_core.specs.Fixed.{fixed_status, fixed_name, refused_line}

abbrev pub reason_text : Reason → List ℕ
reason_text reasons.Missing = codes "missing"
reason_text reasons.Kind = codes "kind"
reason_text reasons.Value = codes "value"
reason_text reasons.Key = codes "key"
reason_text reasons.Name = codes "name"
reason_text reasons.Repeated = codes "repeated"
reason_text reasons.Degree = codes "degree"
reason_text reasons.Polynomial = codes "polynomial"
reason_text reasons.Noise = codes "noise"
reason_text reasons.Version = codes "version"

abbrev pub which_text : Which → List ℕ
which_text limits.Bytes = codes "bytes"
which_text limits.Dimensions = codes "dimensions"
which_text limits.Scaling = codes "scaling"
which_text limits.Parameters = codes "parameters"
which_text limits.Noises = codes "noises"
which_text limits.Unknowns = codes "unknowns"
which_text limits.Number = codes "number"
which_text limits.Degree = codes "degree"
which_text limits.Unit = codes "unit"
which_text limits.Terms = codes "terms"
which_text limits.Factors = codes "factors"
which_text limits.Derivative = codes "derivative"
which_text limits.Denominator = codes "denominator"

abbrev pub of_file : FileRefusal → Refusal
of_file (files.Limit which count) = Limit which count
of_file files.NotUtf8 = NotUtf8
of_file files.NotToml = NotToml
of_file (files.Malformed entry reason) = Malformed entry reason
of_file files.Memory = Memory

abbrev pub of_stage : ℕ → StageFault → Refusal
of_stage j stages.TooManyTrees = TooManyTrees j
of_stage j stages.TreeTooLarge = TreeTooLarge j
of_stage j stages.RuleTooLarge = RuleTooLarge j

abbrev pub of_completion : StageRefusal → Refusal
of_completion (refused.Stage j what) = of_stage j what
of_completion refused.Memory = Memory

abbrev pub of_tree_error : TreeError → Refusal
of_tree_error (trees.TreeText place) = TreeRefused (TreeText place)
of_tree_error (trees.UnknownType place) = TreeRefused (UnknownType place)
of_tree_error (trees.TooManyEdges count) = TreeRefused (TooManyEdges count)
of_tree_error (trees.TooManyDecorations total) = TreeRefused (TooManyDecorations total)
of_tree_error trees.NotCanonical = TreeRefused NotCanonical
of_tree_error trees.Memory = Memory

abbrev pub fixed_of : Refusal → Option FixedRefusal
fixed_of FileFault = Some fixed.FileFault
fixed_of StoreFault = Some fixed.StoreFault
fixed_of Memory = Some fixed.Memory
fixed_of _ = None

abbrev pub status_of : Refusal → ℕ
status_of FileFault = fixed_status fixed.FileFault
status_of NotUtf8 = 4
status_of NotToml = 4
status_of (Malformed entry reason) = 4
status_of (Limit which count) = 5
status_of (NotSubcritical kernel node left right) = 6
status_of (RuleTooLarge stage) = 7
status_of (TooManyTrees stage) = 7
status_of (TreeTooLarge stage) = 7
status_of (ZeroDegree tree) = 8
status_of (CoefficientTooLarge tree quantity) = 9
status_of (NoProject name) = 10
status_of Full = 10
status_of StoreFault = fixed_status fixed.StoreFault
status_of (StoredRow context tree) = 12
status_of (Differs tree stored computed) = 13
status_of (TreeRefused reason) = 14
status_of (TableRefused line) = 14
status_of (TooManyNoises count) = 14
status_of (Missing tree) = 14
status_of Memory = fixed_status fixed.Memory
status_of OldStore = 19
status_of (MetTooLarge tree) = 20
status_of (StoredContext context) = 21
status_of (TooManyTriples tree) = 22

abbrev pub name_of : Refusal → List ℕ
name_of FileFault = fixed_name fixed.FileFault
name_of NotUtf8 = codes "NotUtf8"
name_of NotToml = codes "NotToml"
name_of (Malformed entry reason) = codes "Malformed"
name_of (Limit which count) = codes "Limit"
name_of (NotSubcritical kernel node left right) = codes "NotSubcritical"
name_of (RuleTooLarge stage) = codes "RuleTooLarge"
name_of (TooManyTrees stage) = codes "TooManyTrees"
name_of (TreeTooLarge stage) = codes "TreeTooLarge"
name_of (ZeroDegree tree) = codes "ZeroDegree"
name_of (CoefficientTooLarge tree quantity) = codes "CoefficientTooLarge"
name_of (NoProject name) = codes "NoProject"
name_of Full = codes "Full"
name_of StoreFault = fixed_name fixed.StoreFault
name_of (StoredRow context tree) = codes "StoredRow"
name_of (Differs tree stored computed) = codes "Differs"
name_of (TreeRefused reason) = codes "TreeRefused"
name_of (TableRefused line) = codes "TableRefused"
name_of (TooManyNoises count) = codes "TooManyNoises"
name_of (Missing tree) = codes "Missing"
name_of Memory = fixed_name fixed.Memory
name_of OldStore = codes "OldStore"
name_of (MetTooLarge tree) = codes "MetTooLarge"
name_of (StoredContext context) = codes "StoredContext"
name_of (TooManyTriples tree) = codes "TooManyTriples"

abbrev pub field : List ℕ → List ℕ
field text = codes " " ++ text

abbrev pub reason_of_tree : TreeReason → List ℕ
reason_of_tree (TreeText place) = codes "TreeText" ++ field (decimal place)
reason_of_tree (UnknownType place) = codes "UnknownType" ++ field (decimal place)
reason_of_tree (TooManyEdges count) = codes "TooManyEdges" ++ field (decimal count)
reason_of_tree (TooManyDecorations total) = codes "TooManyDecorations" ++ field (decimal total)
reason_of_tree NotCanonical = codes "NotCanonical"
reason_of_tree NotPositive = codes "NotPositive"

abbrev pub fields_of : Refusal → List ℕ
fields_of (Malformed entry reason) = field entry ++ field (reason_text reason)
fields_of (Limit which count) = field (which_text which) ++ field (signed_decimal count)
fields_of (NotSubcritical kernel node left right) = field kernel ++ field node ++ field left
    ++ field right
fields_of (RuleTooLarge stage) = field (decimal stage)
fields_of (TooManyTrees stage) = field (decimal stage)
fields_of (TreeTooLarge stage) = field (decimal stage)
fields_of (ZeroDegree tree) = field tree
fields_of (CoefficientTooLarge tree quantity) = field tree ++ field quantity
fields_of (NoProject name) = field name
fields_of (StoredRow context tree) = field tree
fields_of (Differs tree stored computed) = field tree ++ codes "\nstored" ++ field stored
    ++ codes "\ncomputed" ++ field computed
fields_of (TreeRefused reason) = field (reason_of_tree reason)
fields_of (TableRefused line) = field (decimal line)
fields_of (TooManyNoises count) = field (decimal count)
fields_of (Missing tree) = field tree
fields_of (MetTooLarge tree) = field tree
fields_of (StoredContext context) = field context
fields_of (TooManyTriples tree) = field tree
fields_of _ = []

abbrev pub line_of : Refusal → List ℕ
line_of r = refused_line (status_of r) (name_of r ++ fields_of r)
