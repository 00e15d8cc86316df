-- A chunked body (RFC 9112, 7.1).
use Rattle.std.specs.Prelude.{◌≡◌, ℕ, ◌<◌, ◌≤◌, List, [], ◌++◌, length, All, Option, Some, None}
use Rattle.std.specs.declared.vec.Vec.{Vec}
use Rattle.std.specs.declared.alloc.Global.{Global}
use Rattle.std.specs.List.{flat_map}
use Rattle.httparse.specs.Ascii.{crlf_bytes}
use Rattle.httparse.specs.Grammar.{LineEnd, Field, ReadsSection, ChunkLine, IsChunkLine, print_chunk_line, ReadsChunkLine, chunk_size}

-- a size line, and so many bytes
pub record Chunk : Type 0 where
  pub line : ChunkLine
  pub bytes : List ℕ

-- the line, the bytes, and CR LF
abbrev pub print_chunk : Chunk → List ℕ
print_chunk c = print_chunk_line c.line ++ c.bytes ++ crlf_bytes

-- the line gives the number of the bytes, of which there are some
pub record IsChunk (c : Chunk) : Type 0 where
  pub line : IsChunkLine c.line
  pub size : chunk_size c.line ≡ length c.bytes
  pub some : 0 < length c.bytes

-- at most 100 fields with their empty line, and nothing more
pub record IsTrailer (bytes : List ℕ) : Type 0 where
  pub fields : List Field
  pub last : LineEnd
  pub reads : ReadsSection bytes fields last []
  pub few : length fields ≤ 100

-- a chunk of size 0, a trailer, and nothing more
pub record IsEnd (bytes : List ℕ) : Type 0 where
  pub line : ChunkLine
  pub rest : List ℕ
  pub reads : ReadsChunkLine bytes line rest
  pub zero : chunk_size line ≡ 0
  pub trailer : IsTrailer rest

-- the bytes are whole chunks and their end, and the body is what the chunks hold
pub record IsChunked (bytes body : List ℕ) : Type 0 where
  pub chunks : List Chunk
  pub rest : List ℕ
  pub whole : All IsChunk chunks
  pub layout : bytes ≡ flat_map print_chunk chunks ++ rest
  pub ended : IsEnd rest
  pub holds : body ≡ flat_map (λ c. c.bytes) chunks

-- the bytes are no chunked body
abbrev pub HasNoChunks : List ℕ → Type 0
HasNoChunks bytes = (body : List ℕ) → ¬ IsChunked bytes body

-- what a chunked body holds, or nothing where the bytes are none
abbrev pub Joins : List ℕ → Option (Vec ℕ Global) → Type 0
Joins bytes (Some body) = IsChunked bytes body.items
Joins bytes None = HasNoChunks bytes
