-- That a header's body is determined by its encoding.
use Rattle.std.specs.Prelude.{◌≡◌}
use Rattle.wire.specs.Grammar.{IsHeaderBody}
use Rattle.wire.specs.Encoding.{header_body}
use Rattle.wire.specs.declared.header.HeaderBody.{HeaderBody}

-- no two different header bodies within their limits have the same encoding
abbrev pub OneBody : Type 0
OneBody = (one other : HeaderBody) → IsHeaderBody one → IsHeaderBody other → header_body one ≡ header_body other → one ≡ other
