-- Lemmas on the spans of the map.
mod Spans
