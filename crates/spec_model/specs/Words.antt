-- Re-exports the types of messages that these definitions use.
pub use Rattle.wire.specs.Batches.{BatchView}
pub use Rattle.wire.specs.Events.{Event}
pub use Rattle.wire.specs.declared.header.Certificate.{Certificate}
pub use Rattle.wire.specs.declared.header.Header.{Header}
pub use Rattle.wire.specs.declared.header.HeaderBody.{HeaderBody}
pub use Rattle.wire.specs.declared.header.Vote.{Vote}
pub use Rattle.wire.specs.declared.keys.Author.{Author}
pub use Rattle.wire.specs.declared.keys.Digest.{Digest}
pub use Rattle.wire.specs.declared.keys.Signature.{Signature}
pub use Rattle.wire.specs.declared.message.BatchAck.{BatchAck}
pub use Rattle.wire.specs.declared.message.Coin.{Coin}
pub use Rattle.wire.specs.declared.message.Message.{Message}
pub use Rattle.wire.specs.declared.output.Output.{Output}
pub use Rattle.wire.specs.declared.references.BatchReference.{BatchReference}
pub use Rattle.wire.specs.declared.references.ParentReference.{ParentReference}
pub use Rattle.wire.specs.declared.votes.VoteEntry.{VoteEntry}
