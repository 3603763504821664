-- The faults of a checkpoint's records, as contracts and files of test cases see them.
use Rattle.std.specs.Prelude.{ℕ, List, ◌++◌, Option, Some, None, codes}
use Rattle.std.specs.Fmt.{decimal}
use Rattle.spec_checkpoint.specs.Loading as loading
use Rattle.ref_checkpoint.specs.declared.fault.LoadFault.{LoadFault}
use Rattle.ref_checkpoint.specs.declared.fault.LoadFault.TheVariants.{AtRecord, OfWhole}

-- what contracts see of a `LoadFault` of the running code
abbrev pub fault_view : LoadFault → loading.LoadFault
fault_view (AtRecord place) = loading.at_record place
fault_view OfWhole = loading.of_whole

-- what files of test cases have for a fault of loading, or for none
abbrev pub answer_text : Option loading.LoadFault → List ℕ
answer_text None = codes "Ok"
answer_text (Some (loading.at_record place)) = codes "2 Unsound " ++ decimal place
answer_text (Some loading.of_whole) = codes "3 UnsoundWhole"
