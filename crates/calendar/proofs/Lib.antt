-- What the test of the table of month starts shows.
mod TableTest
