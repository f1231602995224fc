-- The bytes of a compiled network.
--     sections version c     the nine sections of the file of c, in their order
--     body version c         the sections, one behind the other
--     file version c         the whole file: a mark, the version, the length and the SHA-256 of the body, and the body
-- All numbers stand with the highest byte first.
use Rattle.std.specs.Prelude.{ℕ, ◌++◌, List, [], ◌∷◌, length}
use Rattle.std.specs.List.{flat_map, concat}
use Rattle.sha2.specs.Sha256.{sha256}
use Rattle.move_model.specs.declared.network.Network.{Network}
use Rattle.network_bytes.specs.Bytes.{word, long, short_list, long_list}
use Rattle.network_bytes.specs.Forms.{arc_form, stop_form, trip_form, up_down_form, bucket_form, shortcut_form}
use Rattle.network_file.specs.declared.compiled.Compiled.{Compiled}
use Rattle.network_codec.specs.declared.version.Version.{Version}
use Rattle.network_codec.specs.declared.version.Version.TheVariants as version

abbrev pub number_of : Version → ℕ
number_of version.One = 1
number_of version.Two = 2

-- version 1 doesn't tell the buffer
abbrev pub buffer_form : Version → ℕ → List ℕ
buffer_form version.One seconds = []
buffer_form version.Two seconds = word seconds

abbrev pub streets_form : Version → Network → List ℕ
streets_form version n = buffer_form version n.buffer ++ (word n.nodes ++ short_list arc_form n.arcs)

abbrev pub sections : Version → Compiled → List (List ℕ)
sections version c =
    streets_form version c.network
    ∷ short_list stop_form c.network.stops
    ∷ short_list trip_form c.network.trips
    ∷ flat_map word c.hierarchy.ranks
    ∷ long_list up_down_form c.hierarchy.up
    ∷ long_list up_down_form c.hierarchy.down
    ∷ long_list bucket_form c.buckets.to
    ∷ long_list bucket_form c.buckets.from
    ∷ long_list shortcut_form c.shortcuts
    ∷ []

abbrev pub body : Version → Compiled → List ℕ
body version c = concat (sections version c)

-- "ULTRANET" in ASCII
abbrev pub mark : List ℕ
mark = 85 ∷ 76 ∷ 84 ∷ 82 ∷ 65 ∷ 78 ∷ 69 ∷ 84 ∷ []

-- what stands in front of a body
abbrev pub head : Version → List ℕ → List ℕ
head version body = mark ++ (word (number_of version) ++ (long (length body) ++ sha256 body))

abbrev pub with_head : Version → List ℕ → List ℕ
with_head version body = head version body ++ body

abbrev pub file : Version → Compiled → List ℕ
file version c = with_head version (body version c)
