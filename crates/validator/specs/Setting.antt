-- The setting of a validator, and the node that it describes.
use Rattle.committee.specs.Charter.{Charter}
use Rattle.spec_model.specs.Nodes.{Node}
use Rattle.spec_model.specs.Words.{Author}
use Rattle.sigface.specs.Scheme.{Scheme}

-- a member's number, its committee and its signer
pub record ConfigView (S : Type 0) : Type 0 where
  pub own : Author
  pub charter : Charter
  pub signer : S

-- the node with this setting; its key and signatures are the signer's
abbrev pub node_of : {S : Type 0} → Scheme S → ConfigView S → Node
node_of scheme setting = record {
  own = setting.own;
  charter = setting.charter;
  key = scheme.own_key setting.signer;
  sign = scheme.signature_of setting.signer;
}
