-- A reader of a checkpoint's records, as contracts see it.
use Rattle.std.specs.Prelude.{◌≡◌, ℕ, true, List, [], ◌∷◌, length, All, IfSome, Option, Some, None}
use Rattle.committee.specs.Charter.{Charter}
use Rattle.header.specs.declared.node.Node as declared
use Rattle.sigface.specs.Scheme.{Scheme}
use Rattle.journal.specs.declared.version.Version.{Version}
use Rattle.spec_model.specs.Nodes.{Node, IsNode}
use Rattle.spec_model.specs.Words.{Author}
use Rattle.spec_records.specs.Records.{configuration_of}
use Rattle.wire.specs.Fields.{AreBytes}
use Rattle.spec_checkpoint.specs.Data.{Checkpoint, blank, IsCanonical}
use Rattle.spec_checkpoint.specs.Loading.{LoadFault, at_record, of_whole, is_configuration}
use Rattle.spec_checkpoint.specs.Records.{state_records}
use Rattle.checkpoint.specs.declared.error.LoadError.{LoadError}
use Rattle.checkpoint.specs.declared.error.LoadError.TheVariants.{Memory, Unsound, UnsoundWhole}

-- a reader of a checkpoint: the node whose records it reads, as number, committee and signer, and the records that came so far
pub record ReaderView (S : Type 0) : Type 0 where
  pub own : Author
  pub charter : Charter
  pub signer : S
  pub records : List (List ℕ)

-- the node whose records the reader reads; it signs as the reader's signer does
abbrev pub node_of : {S : Type 0} → Scheme S → ReaderView S → Node
node_of scheme reader = record {
  own = reader.own;
  charter = reader.charter;
  key = scheme.own_key reader.signer;
  sign = scheme.signature_of reader.signer;
}

-- the view of a reader for this node, to which these records came
abbrev pub reader_of : {S : Type 0} → declared.Node S → List (List ℕ) → ReaderView S
reader_of node records = record { own = node.own; charter = node.committee; signer = node.signer; records = records }

-- the records that came so far: none before the configuration; then the configuration in this version, followed by the records of what was
-- read
abbrev pub records_so_far : Node → Option Version → Checkpoint → List (List ℕ)
records_so_far node None so_far = []
records_so_far node (Some version) so_far = configuration_of version node.charter node.own ∷ state_records so_far

-- what the reader of these records keeps. What was read is canonical, so that its records are the ones that came. The reader knows how many
-- they are, and the first one is the configuration
pub record IsReading (node : Node) (version : Option Version) (count : ℕ) (so_far : Checkpoint) : Type 0 where
  pub node_is : IsNode node
  pub canonical : IsCanonical node so_far
  pub bytes : All AreBytes (state_records so_far)
  pub counted : count ≡ length (records_so_far node version so_far)
  pub begun : IfSome version (λ v. is_configuration node (configuration_of v node.charter node.own) ≡ true)
  pub blank : version ≡ None → so_far ≡ blank

-- ---- errors

-- the fault that an error reports; none for Memory, which is no fault of the records
abbrev pub fault_of : LoadError → Option LoadFault
fault_of Memory = None
fault_of (Unsound place) = Some (at_record place)
fault_of UnsoundWhole = Some of_whole
