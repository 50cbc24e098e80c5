-- Request C-13, the reply to STRSET_GET: "the header nest (index, name) exactly where a port is named, then STRINGSETS".
use Rattle.std.specs.Prelude.{ℕ, ◌+◌, Bool, cond, List, [], ◌++◌, length}
use Rattle.netlink_write.specs.Attributes.{nest}
use Rattle.index_name.specs.IndexName.{index_nest}
use Rattle.layout.specs.Layout.{Names}
use Rattle.reply.specs.Message.{headers_bytes}
use Rattle.reply.specs.declared.message.Heading.{Heading}
use Rattle.strset_request.specs.declared.list.Sets.{Sets}
use Rattle.strset_reply.specs.Sets.{sets_bytes}

-- what a reply is about: whether a port is named, its index and name; the name lists, which of them and in which order, and whether their counts alone
pub record StrsetContent : Type 0 where
  pub named : Bool
  pub index : ℕ
  pub name : List ℕ
  pub names : Names
  pub sets : Sets
  pub counts : Bool

-- of these parts
abbrev pub strset_content_of : Bool → ℕ → List ℕ → Names → Sets → Bool → StrsetContent
strset_content_of named index name names sets counts =
    record { named = named; index = index; name = name; names = names; sets = sets; counts = counts }

-- attribute 1, where a port is named
unfoldable pub port_nest : Bool → ℕ → List ℕ → List ℕ
port_nest named index name = cond named (index_nest 1 index name) []

-- and attribute 2, STRINGSETS
unfoldable pub strset_attributes : StrsetContent → List ℕ
strset_attributes content =
    port_nest content.named content.index content.name
    ++ nest 2 (sets_bytes content.counts content.names content.sets)

-- the reply, whose length counts all of it
unfoldable pub strset_reply : Heading → StrsetContent → List ℕ
strset_reply h content = headers_bytes h (length (strset_attributes content) + 20) ++ strset_attributes content
